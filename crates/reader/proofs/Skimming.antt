-- Form alone: one step of the way keeps what is still to come. The law behind it: a value's end is found by reading on with one bracket more, and an
-- expression's end with its own; so one number stands for all the expressions that are open.
-- Assumes nothing.
use mathlib.Core.Path.{◌≡◌, refl, sym, ap, ◌∙◌}
use mathlib.Core.Bool.{Bool, true, false}
use mathlib.Core.List.{List}
use Prim.Native.Nat.{ℕ, suc, ◌+◌, ◌-◌, ◌≤◌, ◌<◌}
use Rattle.std.specs.Prelude.{Ok, Err}
use native.Mathlib.Omega.{arith}
use native.Mathlib.Numerals.{add-one}
use lib.ListN.{length, drop}
use Rattle.grammar.specs.Grammar.{Number, Value, number, parameter, applied, grouped, expr, more}
use Rattle.grammar.proofs.Read.{opens_number, hash, bare, call, close, oper}
use Rattle.grammar.proofs.Place.{Placed, wrong, found, bind_p, map_p, number_p, head_p, tail_p, tail_on}
use Rattle.grammar.proofs.Trees.{value_t, rest_t, expr_t, after_t, more_t, value_tree, rest_tree, value_ends}
use Rattle.grammar.specs.declared.Op.{Op}
use Rattle.grammar.specs.declared.Func.{Func}
use Rattle.rules.specs.Meaning.{Worked, number_of}
use Rattle.reader.specs.Places.{valued, opening, following, spelt_to}
use Rattle.reader.specs.Passage.{value_e, rest_e, shut, due, onward, Onto}
use Rattle.reader.specs.declared.spelling.Opening.TheVariants.{Parameter, Bracket, Function}
use Rattle.reader.specs.declared.spelling.Following.TheVariants.{Close, Operator}
use Rattle.reader.specs.declared.passage.Way.{Way}
use Rattle.reader.proofs.Clash.{clash}
use Rattle.reader.proofs.Evaluating.{with_place, place_one, parameter_is, bracket_is, function_is, no_opening_is, close_is, operator_is, no_following_is, parameter_end, bracket_end, function_end, operator_end}

-- the place alone
abbrev bare_place : {X : Type 0} → Placed X → Placed (Unit {0})
bare_place m = map_p (λ _. tt) m

bare_map : {X Y : Type 0} (g : X → Y) (m : Placed X) → bare_place (map_p g m) ≡ bare_place m
bare_map g (wrong p) = refl
bare_map g (found a p) = refl

in_turn : {X : Type 0} (m : Placed X) (f g : ℕ → Placed (Unit {0})) → bind_p (bind_p m (λ _ q. f q)) (λ _ q. g q) ≡ bind_p m (λ _ q. bind_p (f q) (λ _ r. g r))
in_turn (wrong p) f g = refl
in_turn (found a p) f g = refl

-- a number by what the code says of it
number_found : (m : Placed Number) {a : Worked} {p : ℕ} → with_place a p ≡ valued (map_p number_of m) → bare_place (map_p number m) ≡ found tt p
number_found (wrong q) e = clash (cc)
number_found (found n q) e = ap (found tt) (sym (place_one e))

number_lost : (m : Placed Number) {p : ℕ} → Err p ≡ valued (map_p number_of m) → bare_place (map_p number m) ≡ wrong p
number_lost (wrong q) {p} e = let k : q ≡ p = cc in ap wrong k
number_lost (found n q) e = clash (cc)

module _ (s : List ℕ) where
  -- the values and the rest in an expression
  then_rest : {X : Type 0} (g : Value → _ → X) (m : Placed Value) → map_p (λ _. tt) (bind_p m (λ v q. map_p (g v) (rest_t s q))) ≡ bind_p (bare_place m) (λ _ q. rest_e s q)
  unfolding rest_e
  then_rest g (wrong p) = refl
  then_rest g (found v p) = bare_map (g v) (rest_t s p)

  module _ (at : ℕ) where
    value_stays : {p : ℕ} → at ≤ length s → value_e s at ≡ found tt p → (at ≤ p) × (p ≤ length s)
    unfolding value_e
    value_stays {p} l e = go (value_t s at) refl e
      where
        go : (m : Placed Value) → value_t s at ≡ m → bare_place m ≡ found tt p → (at ≤ p) × (p ≤ length s)
        go (wrong q) h z = clash (cc)
        go (found v q) h z = let k : q ≡ p = cc in omega (arith, value_ends s at v q l h)

    -- a value by what opens it
    module _ (o : opens_number (drop at s) ≡ true) where
      is_number : value_e s at ≡ bare_place (map_p number (number_p s at))
      unfolding value_e
      is_number = let h : value_t s at ≡ map_p number (number_p s at) = value_tree s at ∙ rw o in ap (λ (m : Placed Value). bare_place m) h

    module _ (o : opens_number (drop at s) ≡ false) where
      past : value_e s at ≡ map_p (λ _. tt) (bind_p (head_p s at) (after_t s))
      unfolding value_e
      past = let h : value_t s at ≡ bind_p (head_p s at) (after_t s) = value_tree s at ∙ rw o in ap (λ (m : Placed Value). bare_place m) h

      value_hash : {p : ℕ} → head_p s at ≡ found hash p → value_e s at ≡ value_e s p
      unfolding value_e
      value_hash {p} h = past ∙ rw h (bare_map parameter (value_t s p))

      value_bare : {p : ℕ} → head_p s at ≡ found bare p → value_e s at ≡ bind_p (value_e s p) (λ _ q. rest_e s q)
      unfolding value_e
      value_bare {p} h = past ∙ rw h (bare_map grouped (expr_t s p) ∙ then_rest expr (value_t s p))

      value_call : {g : Func} {p : ℕ} → head_p s at ≡ found (call g) p → value_e s at ≡ bind_p (value_e s p) (λ _ q. rest_e s q)
      unfolding value_e
      value_call {g} {p} h = past ∙ rw h (bare_map (applied g) (expr_t s p) ∙ then_rest expr (value_t s p))

      value_none : {p : ℕ} → head_p s at ≡ wrong p → value_e s at ≡ wrong p
      value_none {p} h = past ∙ rw h

    -- a rest by what comes first
    rest_past : rest_e s at ≡ map_p (λ _. tt) (bind_p (tail_p s at) (more_t s))
    unfolding rest_e
    rest_past = ap (map_p (λ _. tt)) (rest_tree s at)

    rest_close : {p : ℕ} → tail_p s at ≡ found close p → rest_e s at ≡ found tt p
    rest_close h = rest_past ∙ rw h

    rest_more : {o : Op} {p : ℕ} → tail_p s at ≡ found (oper o) p → rest_e s at ≡ bind_p (value_e s p) (λ _ q. rest_e s q)
    unfolding value_e
    rest_more {o} {p} h = rest_past ∙ rw h (then_rest (more o) (value_t s p))

    rest_none : {p : ℕ} → tail_p s at ≡ wrong p → rest_e s at ≡ wrong p
    rest_none h = rest_past ∙ rw h

    -- the law: what k open brackets leave to come, and a value before it
    module _ (k : ℕ) where
      due_found : {p : ℕ} → value_e s at ≡ found tt p → due s k at ≡ shut s k p
      due_found h = rw h

      due_lost : {p : ℕ} → value_e s at ≡ wrong p → due s k at ≡ wrong p
      due_lost h = rw h

      due_same : (p : ℕ) → value_e s at ≡ value_e s p → due s k at ≡ due s k p
      due_same p h = rw h

      due_deeper : (p : ℕ) → value_e s at ≡ bind_p (value_e s p) (λ _ q. rest_e s q) → due s k at ≡ due s (suc k) p
      due_deeper p h = rw h (in_turn (value_e s p) (rest_e s) (shut s k))

      shut_close : {p : ℕ} → rest_e s at ≡ found tt p → shut s (suc k) at ≡ shut s k p
      shut_close h = rw h

      shut_more : (p : ℕ) → rest_e s at ≡ bind_p (value_e s p) (λ _ q. rest_e s q) → shut s (suc k) at ≡ due s (suc k) p
      shut_more p h = rw h (in_turn (value_e s p) (rest_e s) (shut s k))

      shut_lost : {p : ℕ} → rest_e s at ≡ wrong p → shut s (suc k) at ≡ wrong p
      shut_lost h = rw h

abbrev way : ℕ → Bool → ℕ → Way
way at d k = record { at = at; due = d; brackets = k }

-- ---- one step, in the code's answers
module _ (s : List ℕ) (at k : ℕ) (l : at ≤ length s) (d : k ≤ at) where
  module _ (o : opens_number (drop at s) ≡ true) where
    pub step_number : {a : Worked} {p : ℕ} → with_place a p ≡ valued (map_p number_of (number_p s at)) → Onto s (way at true k) (way p false k)
    unfolding onward
    step_number {a} {p} h =
        let e = is_number s at o ∙ number_found (number_p s at) h in
        let z = value_stays s at l e in
        record { same = sym (due_found s at k e); within = z.1; opened = omega (arith, z); less = omega (arith, z) }

    pub step_no_number : {p : ℕ} → Err p ≡ valued (map_p number_of (number_p s at)) → Err p ≡ spelt_to (onward s (way at true k))
    unfolding onward
    step_no_number {p} h = rw (due_lost s at k (is_number s at o ∙ number_lost (number_p s at) h))

  module _ (o : opens_number (drop at s) ≡ false) where
    pub step_parameter : {p : ℕ} → with_place Parameter p ≡ opening (head_p s at) → Onto s (way at true k) (way p true k)
    unfolding onward
    step_parameter {p} h =
        let z = parameter_end s at l h in
        record { same = sym (due_same s at k p (value_hash s at o (parameter_is (head_p s at) h))); within = z.1; opened = omega (arith, z); less = omega (arith, z) }

    deeper : {p : ℕ} → (at < p) × (p ≤ length s) → value_e s at ≡ bind_p (value_e s p) (λ _ q. rest_e s q) → Onto s (way at true k) (way p true (k + 1))
    unfolding onward
    deeper {p} z h =
        record { same = rw add-one (sym (due_deeper s at k p h)); within = z.1; opened = omega (arith, z); less = omega (arith, z) }

    pub step_bracket : {p : ℕ} → with_place Bracket p ≡ opening (head_p s at) → Onto s (way at true k) (way p true (k + 1))
    step_bracket h = deeper (bracket_end s at l h) (value_bare s at o (bracket_is (head_p s at) h))

    pub step_function : {g : Func} {p : ℕ} → with_place (Function g) p ≡ opening (head_p s at) → Onto s (way at true k) (way p true (k + 1))
    step_function h = deeper (function_end s at l h) (value_call s at o (function_is (head_p s at) h))

    pub step_no_opening : {p : ℕ} → Err p ≡ opening (head_p s at) → Err p ≡ spelt_to (onward s (way at true k))
    unfolding onward
    step_no_opening h = rw (due_lost s at k (value_none s at o (no_opening_is (head_p s at) h)))

  module _ (n : 0 < k) where
    one : k ≡ suc (k - 1)
    one = omega arith

    pub step_close : {p : ℕ} → with_place Close p ≡ following (tail_p s at) → Onto s (way at false k) (way p false (k - 1))
    unfolding onward
    step_close {p} h =
        let z = tail_on s at close p l (close_is (tail_p s at) h) in
        record { same = sym (ap (λ (x : ℕ). shut s x at) one ∙ shut_close s at (k - 1) (rest_close s at (close_is (tail_p s at) h))); within = z.1; opened = omega (arith, z); less = omega (arith, z) }

    pub step_operator : {o : Op} {p : ℕ} → with_place (Operator o) p ≡ following (tail_p s at) → Onto s (way at false k) (way p true k)
    unfolding onward
    step_operator {o} {p} h =
        let z = operator_end s at l h in
        record { same = sym (ap (λ (x : ℕ). shut s x at) one ∙ shut_more s at (k - 1) p (rest_more s at (operator_is (tail_p s at) h)) ∙ ap (λ (x : ℕ). due s x p) (sym one)); within = z.1; opened = omega (arith, z); less = omega (arith, z) }

    pub step_no_following : {p : ℕ} → Err p ≡ following (tail_p s at) → Err p ≡ spelt_to (onward s (way at false k))
    unfolding onward
    step_no_following {p} h = ap spelt_to (sym (ap (λ (x : ℕ). shut s x at) one ∙ shut_lost s at (k - 1) (rest_none s at (no_following_is (tail_p s at) h))))

-- with no value due and no bracket open, all is passed
pub all_passed : (s : List ℕ) (w : Way) → w.due ≡ false → w.brackets ≡ 0 → Ok w.at ≡ spelt_to (onward s w)
unfolding onward
all_passed s w d k = rw (d, k)

-- ---- the whole way from a value

then_done : (m : Placed (Unit {0})) → bind_p m (λ _ p. found tt p) ≡ m
then_done (wrong p) = refl
then_done (found _ p) = refl

ends_so : {X : Type 0} (m : Placed X) → spelt_to (bare_place m) ≡ spelt_to m
ends_so (wrong p) = refl
ends_so (found x p) = refl

pub from_value : (s : List ℕ) (at : ℕ) → spelt_to (onward s (way at true 0)) ≡ spelt_to (value_t s at)
unfolding onward value_e
from_value s at = ap (λ (m : Placed (Unit {0})). spelt_to m) (then_done (value_e s at)) ∙ ends_so (value_t s at)

pub from_rest : (s : List ℕ) (at : ℕ) → spelt_to (onward s (way at false 1)) ≡ spelt_to (rest_t s at)
unfolding onward rest_e
from_rest s at = ap (λ (m : Placed (Unit {0})). spelt_to m) (then_done (rest_e s at)) ∙ ends_so (rest_t s at)
