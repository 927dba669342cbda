-- The pass by places in one line: what a function over a slice and a place is proved by. An answer is a value and the next place, or the place of the first byte at which the form is wrong.
use mathlib.Core.Path.{◌≡◌, refl, ap, ap₂, ◌∙◌, sym}
use mathlib.Core.Bool.{Bool, true, false, cond}
use mathlib.Core.List.{List, [], ◌∷◌, ◌++◌, append_assoc}
use Prim.Native.Nat.{ℕ, ◌+◌, ◌-◌, ◌≤◌}
use native.Mathlib.Omega.{arith}
use lib.ListN.{length, take, drop, length-append, length-drop, take-append-drop}
use lib.Seq.{drop_at}
use Rattle.grammar.specs.Grammar.{Number}
use Rattle.grammar.specs.Working.{Arithmetic, value}
use Rattle.grammar.proofs.Read.{Read, fail, got, eat, bind, map_r, read_number, opens_number, read_head, read_tail}
use Rattle.grammar.proofs.Read.{Head, hash, bare, call, spell_head, Tail, close, oper, spell_tail}
use Rattle.grammar.proofs.Sound.{Good, nothing, front, Any, head_good, tail_good, value_of_good}
use Rattle.grammar.proofs.Terms.{Pass}
use Rattle.grammar.proofs.OnePass.{calc_expr, calc_after, calc_more, calc_of, calc_rest_of, calc_value_holds}
use Rattle.grammar.proofs.Fuel.{calc_eq, calc_rest_eq, Within, out, left, calc_of_within}

pub data Placed (A : Type 0) : Type 0 where
  wrong : ℕ → Placed A
  found : A → ℕ → Placed A

module _ {A B : Type 0} where
  abbrev pub bind_p : Placed A → (A → ℕ → Placed B) → Placed B
  bind_p (wrong p) k = wrong p
  bind_p (found a p) k = k a p

  abbrev pub map_p : (A → B) → Placed A → Placed B
  map_p g (wrong p) = wrong p
  map_p g (found a p) = found (g a) p

-- the place of what is left, in the line s
abbrev pub place : {A : Type 0} → List ℕ → Read A → Placed A
place s (fail q) = wrong (length s - length q)
place s (got a q) = found a (length s - length q)

-- what is left is the line's end from its place on
pub data Sits {A : Type 0} (s : List ℕ) : Read A → Type 0 where
  off : {q : List ℕ} → Sits s (fail q)
  sits : {a : A} {q : List ℕ} → q ≡ drop (length s - length q) s → Sits s (got a q)

end_of : (s y q : List ℕ) → s ≡ y ++ q → q ≡ drop (length s - length q) s
end_of s y q e = sym (rw e (drop_at y q (length (y ++ q) - length q) (omega (arith, length-append y q))))

suffix : (s x q : List ℕ) (at : ℕ) → drop at s ≡ x ++ q → q ≡ drop (length s - length q) s
suffix s x q at e = end_of s (take at s ++ x) q (sym (take-append-drop at s) ∙ rw e (sym (append_assoc (take at s) x q)))

pub good_sits : {A : Type 0} {w : A → List ℕ} {Ok : A → Type 0} (s : List ℕ) (at : ℕ) {m : Read A} → Good w Ok (drop at s) m → Sits s m
good_sits s at nothing = off
good_sits {w = w} s at (front {a = a} {r = r} e o) = sits (suffix s (w a) r at e)

pub map_sits : {A B : Type 0} (g : A → B) {s : List ℕ} {m : Read A} → Sits s m → Sits s (map_r g m)
map_sits g off = off
map_sits g (sits e) = sits e

module _ (s : List ℕ) where
  pub place_bind : {A B : Type 0} {m : Read A} (k : A → List ℕ → Read B) (k' : A → ℕ → Placed B) → Sits s m →
      ((a : A) (p : ℕ) → p ≤ length s → place s (k a (drop p s)) ≡ k' a p) → place s (bind m k) ≡ bind_p (place s m) k'
  place_bind k k' off h = refl
  place_bind k k' (sits {a = a} {q = q} e) h = ap (λ l. place s (k a l)) e ∙ h a (length s - length q) (omega arith)

  pub place_map : {A B : Type 0} (g : A → B) (m : Read A) → place s (map_r g m) ≡ map_p g (place s m)
  place_map g (fail q) = refl
  place_map g (got a q) = refl

  pub place_cond : {A : Type 0} (c : Bool) (m n : Read A) → place s (cond c m n) ≡ cond c (place s m) (place s n)
  place_cond true m n = refl
  place_cond false m n = refl

-- no place lies before where the reading began, or past the line
pub forward : {A : Type 0} (s : List ℕ) (at : ℕ) {m : Read A} (a : A) (p : ℕ) → at ≤ length s → Within (length (drop at s)) m → place s m ≡ found a p → (at ≤ p) × (p ≤ length s)
forward s at a p l out e = absurd (let z : ◌≡◌ {A = ℕ} 0 1 = cc in omega arith)
forward s at a p l (left {r = r} h) e =
    let k : length s - length r ≡ p = cc in
    omega (arith, length-drop at s)

-- a spelling's end lies its length further on
pub spelt : {A : Type 0} (w : A → List ℕ) (Ok : A → Type 0) (s : List ℕ) (at : ℕ) {m : Read A} (a : A) (p : ℕ) → at ≤ length s → Good w Ok (drop at s) m → place s m ≡ found a p → (p ≡ at + length (w a)) × (p ≤ length s)
spelt w Ok s at a p l nothing e = absurd (let z : ◌≡◌ {A = ℕ} 0 1 = cc in omega arith)
spelt w Ok s at a p l (front {a = b} {r = q} h o) e =
    let same : b ≡ a = cc in
    let k : length s - length q ≡ p = cc in
    let n : length (drop at s) ≡ length (w a) + length q = ap length h ∙ length-append (w b) q ∙ ap (λ x. length (w x) + length q) same in
    omega (arith, length-drop at s)

module _ (s : List ℕ) where
  -- the leaves
  unfoldable pub byte_p : ℕ → ℕ → Placed (Unit {0})
  byte_p b at = place s (eat {A = Unit {0}} (b ∷ []) tt (drop at s))

  unfoldable pub number_p : ℕ → Placed Number
  number_p at = place s (read_number (drop at s))

  unfoldable pub head_p : ℕ → Placed Head
  head_p at = place s (read_head (drop at s))

  unfoldable pub tail_p : ℕ → Placed Tail
  tail_p at = place s (read_tail (drop at s))

  pub head_on : (at : ℕ) (h : Head) (p : ℕ) → at ≤ length s → head_p at ≡ found h p → (p ≡ at + length (spell_head h)) × (p ≤ length s)
  unfolding head_p
  head_on at h p l e = spelt spell_head Any s at h p l (head_good (drop at s)) e

  pub tail_on : (at : ℕ) (h : Tail) (p : ℕ) → at ≤ length s → tail_p at ≡ found h p → (p ≡ at + length (spell_tail h)) × (p ≤ length s)
  unfolding tail_p
  tail_on at h p l e = spelt spell_tail Any s at h p l (tail_good (drop at s)) e

module _ {W E S : Type 0} {A : Arithmetic W E} (P : Pass A S) (s : List ℕ) where
  -- the two that call each other
  unfoldable pub value_p : ℕ → Placed W
  value_p at = place s (calc_of P (drop at s))

  unfoldable pub rest_p : S → ℕ → Placed W
  rest_p st at = place s (calc_rest_of P st (drop at s))

  -- an expression after its bracket
  abbrev pub expr_p : ℕ → Placed W
  expr_p at = bind_p (value_p at) (λ a q. rest_p (P.fresh a) q)

  abbrev pub after_p : Head → ℕ → Placed W
  after_p hash at = map_p A.lookup (value_p at)
  after_p bare at = map_p A.enclose (expr_p at)
  after_p (call g) at = map_p (A.apply g) (expr_p at)

  abbrev pub more_p : S → Tail → ℕ → Placed W
  more_p st close at = found (P.closing st) at
  more_p st (oper o) at = bind_p (value_p at) (λ b q. rest_p (P.pushed st o b) q)

  pub calc_sits : (at : ℕ) → Sits s (calc_of P (drop at s))
  calc_sits at = rw (calc_value_holds P (drop at s)) (map_sits (value A) (good_sits s at (value_of_good (drop at s))))

  expr_place : (at : ℕ) → place s (calc_expr P (calc_of P) (calc_rest_of P) (drop at s)) ≡ expr_p at
  unfolding value_p rest_p
  expr_place at = place_bind s _ _ (calc_sits at) (λ a q _. refl)

  after_place : (h : Head) (at : ℕ) → place s (calc_after P (calc_of P) (calc_rest_of P) h (drop at s)) ≡ after_p h at
  unfolding value_p
  after_place hash at = place_map s _ (calc_of P (drop at s))
  after_place bare at = place_map s A.enclose (calc_expr P (calc_of P) (calc_rest_of P) (drop at s)) ∙ ap (map_p A.enclose) (expr_place at)
  after_place (call g) at = place_map s _ (calc_expr P (calc_of P) (calc_rest_of P) (drop at s)) ∙ ap (map_p _) (expr_place at)

  pub value_place : (at : ℕ) → value_p at ≡ cond (opens_number (drop at s)) (map_p A.number_of (number_p s at)) (bind_p (head_p s at) after_p)
  unfolding value_p number_p head_p
  value_place at =
      ap (place s) (calc_eq P (drop at s))
      ∙ place_cond s (opens_number (drop at s)) _ _
      ∙ ap₂ (cond (opens_number (drop at s))) (place_map s _ (read_number (drop at s))) (place_bind s _ _ (good_sits s at (head_good (drop at s))) (λ h p _. after_place h p))

  more_place : (st : S) (h : Tail) (at : ℕ) → at ≤ length s → place s (calc_more P (calc_of P) (calc_rest_of P) st h (drop at s)) ≡ more_p st h at
  unfolding value_p rest_p
  more_place st close at l = ap (found (P.closing st)) (simp length-drop (omega arith))
  more_place st (oper o) at l = place_bind s _ _ (calc_sits at) (λ b q _. refl)

  pub rest_place : (st : S) (at : ℕ) → rest_p st at ≡ bind_p (tail_p s at) (more_p st)
  unfolding rest_p tail_p
  rest_place st at =
      ap (place s) (calc_rest_eq P st (drop at s)) ∙ place_bind s _ _ (good_sits s at (tail_good (drop at s))) (λ h q l. more_place st h q l)

  pub value_forward : (at : ℕ) (a : W) (p : ℕ) → at ≤ length s → value_p at ≡ found a p → (at ≤ p) × (p ≤ length s)
  unfolding value_p
  value_forward at a p l e = forward s at a p l (calc_of_within P (drop at s)) e
