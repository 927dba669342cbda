-- From the answers of the functions that look at a byte or a name back to the grammar's, and where these end.
-- Assumes nothing.
use mathlib.Core.Path.{◌≡◌, sym, ap, ◌∙◌}
use mathlib.Core.List.{List, [], ◌∷◌}
use Prim.Native.Nat.{ℕ, ◌≤◌, ◌<◌}
use Rattle.std.specs.Prelude.{Option, Some, None, Result, Ok, Err}
use Rattle.std.specs.Result.{result_ok}
use native.Mathlib.Omega.{arith}
use lib.ListN.{length, length-append}
use Rattle.grammar.specs.Grammar.{spell_func}
use Rattle.grammar.proofs.Read.{Head, hash, bare, call, Tail, close, oper}
use Rattle.grammar.proofs.Back.{spells}
use Rattle.grammar.proofs.Place.{Placed, wrong, found, head_p, tail_p, head_on, tail_on}
use Rattle.grammar.specs.declared.Op.{Op}
use Rattle.grammar.specs.declared.Func.{Func}
use Rattle.reader.specs.Places.{opening, following, spelt_to}
use Rattle.reader.specs.declared.spelling.Opening.TheVariants.{Parameter, Bracket, Function}
use Rattle.reader.specs.declared.spelling.Following.TheVariants.{Close, Operator}
use Rattle.reader.proofs.Clash.{clash}

-- what was answered is the one thing that could be
pub ok_one : {A E : Type 0} {x y : A} → ◌≡◌ {A = Result A E} (Ok x) (Ok y) → x ≡ y
ok_one e = cc

pub err_one : {A E : Type 0} {x y : E} → ◌≡◌ {A = Result A E} (Err x) (Err y) → x ≡ y
err_one e = cc

some_one : {A : Type 0} {x y : A} → ◌≡◌ {A = Option A} (Some x) (Some y) → x ≡ y
some_one e = cc

-- an answer with the place past it, and what two such share that are one
abbrev pub with_place : {A : Type 0} → A → ℕ → Result (A × ℕ) ℕ
with_place x p = Ok (x, p)

pub answer_one : {A : Type 0} {x y : A} {p q : ℕ} → with_place x p ≡ with_place y q → x ≡ y
answer_one {A} e = ap (λ (r : A × ℕ). r.0) (ok_one e)

pub place_one : {A : Type 0} {x y : A} {p q : ℕ} → with_place x p ≡ with_place y q → p ≡ q
place_one {A} e = ap (λ (r : A × ℕ). r.1) (ok_one e)

-- an answer, from the option that keeps it without its error
pub ok_was : {A E : Type 0} {r : Result A E} {o : Option A} {x : A} {y : Result A E} → o ≡ Some x → o ≡ result_ok r → r ≡ y → Ok x ≡ y
ok_was {r = Ok z} e d h = (let k : ◌≡◌ {A = Option _} (Some z) (Some _) = sym d ∙ e in ap Ok (some_one (sym k))) ∙ h
ok_was {r = Err z} e d h = clash (let k : ◌≡◌ {A = Option _} None (Some _) = sym d ∙ e in cc)

pub not_was : {A E : Type 0} {r : Result A E} {o : Option A} {y : Result A E} → o ≡ None → o ≡ result_ok r → r ≡ y → (why : E) × (Err why ≡ y)
not_was {r = Ok z} e d h = clash (let k : ◌≡◌ {A = Option _} (Some z) None = sym d ∙ e in cc)
not_was {r = Err z} e d h = (z, h)

-- from an arm back to what was answered
pub placed : {A : Type 0} {x y : A} {p : ℕ} {r s : Result (A × ℕ) ℕ} → r ≡ with_place x p → x ≡ y → r ≡ s → with_place y p ≡ s
placed {A} {p = p} e d h = sym (e ∙ ap (λ (z : A). with_place z p) d) ∙ h

pub because : {A E : Type 0} {x y : E} {r s : Result A E} → r ≡ Err x → x ≡ y → r ≡ s → Err y ≡ s
because {A} {E} e d h = sym (e ∙ ap Err d) ∙ h

-- a spelling or a tree was passed, or is wrong
pub record Ends {X : Type 0} (m : Placed X) (p : ℕ) : Type 0 where
  pub thing : X
  pub is : m ≡ found thing p

pub ends_is : {X : Type 0} (m : Placed X) {p : ℕ} → Ok p ≡ spelt_to m → Ends m p
ends_is (wrong q) e = clash (cc)
ends_is (found x q) {p} e = let k : q ≡ p = cc in record { thing = x; is = rw k }

pub not_is : {X : Type 0} (m : Placed X) {p : ℕ} → Err p ≡ spelt_to m → m ≡ wrong p
not_is (wrong q) {p} e = let k : q ≡ p = cc in rw k
not_is (found x q) e = clash (cc)

pub parameter_is : (m : Placed Head) {p : ℕ} → with_place Parameter p ≡ opening m → m ≡ found hash p
parameter_is (wrong q) e = clash (cc)
parameter_is (found hash q) e = ap (found hash) (sym (place_one e))
parameter_is (found bare q) e = let k : Parameter ≡ Bracket = answer_one e in clash (cc)
parameter_is (found (call g) q) e = let k : Parameter ≡ Function g = answer_one e in clash (cc)

pub bracket_is : (m : Placed Head) {p : ℕ} → with_place Bracket p ≡ opening m → m ≡ found bare p
bracket_is (wrong q) e = clash (cc)
bracket_is (found hash q) e = let k : Bracket ≡ Parameter = answer_one e in clash (cc)
bracket_is (found bare q) e = ap (found bare) (sym (place_one e))
bracket_is (found (call g) q) e = let k : Bracket ≡ Function g = answer_one e in clash (cc)

pub function_is : (m : Placed Head) {g : Func} {p : ℕ} → with_place (Function g) p ≡ opening m → m ≡ found (call g) p
function_is (wrong q) e = clash (cc)
function_is (found hash q) {g} e = let k : Function g ≡ Parameter = answer_one e in clash (cc)
function_is (found bare q) {g} e = let k : Function g ≡ Bracket = answer_one e in clash (cc)
function_is (found (call f) q) {g} {p} e =
    let k : Function g ≡ Function f = answer_one e in
    let h : f ≡ g = cc in
    let z : q ≡ p = sym (place_one e) in
    rw (h, z)

pub no_opening_is : (m : Placed Head) {p : ℕ} → Err p ≡ opening m → m ≡ wrong p
no_opening_is (wrong q) {p} e = let k : q ≡ p = cc in rw k
no_opening_is (found hash q) e = clash (cc)
no_opening_is (found bare q) e = clash (cc)
no_opening_is (found (call g) q) e = clash (cc)

pub close_is : (m : Placed Tail) {p : ℕ} → with_place Close p ≡ following m → m ≡ found close p
close_is (wrong q) e = clash (cc)
close_is (found close q) e = ap (found close) (sym (place_one e))
close_is (found (oper o) q) e = let k : Close ≡ Operator o = answer_one e in clash (cc)

pub operator_is : (m : Placed Tail) {o : Op} {p : ℕ} → with_place (Operator o) p ≡ following m → m ≡ found (oper o) p
operator_is (wrong q) e = clash (cc)
operator_is (found close q) {o} e = let k : Operator o ≡ Close = answer_one e in clash (cc)
operator_is (found (oper n) q) {o} {p} e =
    let k : Operator o ≡ Operator n = answer_one e in
    let h : n ≡ o = cc in
    let z : q ≡ p = sym (place_one e) in
    rw (h, z)

pub no_following_is : (m : Placed Tail) {p : ℕ} → Err p ≡ following m → m ≡ wrong p
no_following_is (wrong q) {p} e = let k : q ≡ p = cc in rw k
no_following_is (found close q) e = clash (cc)
no_following_is (found (oper o) q) e = clash (cc)

module _ (s : List ℕ) (at : ℕ) (l : at ≤ length s) where
  pub parameter_end : {p : ℕ} → with_place Parameter p ≡ opening (head_p s at) → (at < p) × (p ≤ length s)
  parameter_end {p} h = omega (arith, head_on s at hash p l (parameter_is (head_p s at) h))

  pub bracket_end : {p : ℕ} → with_place Bracket p ≡ opening (head_p s at) → (at < p) × (p ≤ length s)
  bracket_end {p} h = omega (arith, head_on s at bare p l (bracket_is (head_p s at) h))

  pub function_end : {g : Func} {p : ℕ} → with_place (Function g) p ≡ opening (head_p s at) → (at < p) × (p ≤ length s)
  function_end {g} {p} h = omega (arith, head_on s at (call g) p l (function_is (head_p s at) h), length-append (spell_func g) (91 ∷ []))

  pub operator_end : {o : Op} {p : ℕ} → with_place (Operator o) p ≡ following (tail_p s at) → (at < p) × (p ≤ length s)
  operator_end {o} {p} h = omega (arith, tail_on s at (oper o) p l (operator_is (tail_p s at) h), spells o)
