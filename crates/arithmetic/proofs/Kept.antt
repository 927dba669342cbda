-- Every value that was worked out is in range, whatever it was made from; and for a value in range the guard of this crate's functions vanishes, so
-- that they give what `rules` says.
-- Assumes nothing.
use mathlib.Core.Path.{◌≡◌, refl}
use mathlib.Core.Bool.{Bool, true, false, cond}
use mathlib.Core.List.{List}
use Prim.Native.Nat.{ℕ}
use lib.Dec.{eqb}
use lib.IntN.{ℤ, nat_abs}
use borrow.Author.Tests.{leb-true}
use Rattle.grammar.specs.declared.Op.{Op}
use Rattle.grammar.specs.declared.Op.TheVariants.{Add, Sub, Mul, Div, Mod, And, Or, Xor}
use Rattle.grammar.specs.declared.Func.{Func}
use Rattle.grammar.specs.declared.Func.TheVariants.{Abs, Fix, Fup, Round}
use Rattle.grammar.specs.Grammar.{Number, num}
use Rattle.rules.specs.Numbers.{in_range}
use Rattle.rules.specs.Meaning.{Worked, ranged, written, number_of, divided, operation, function, parameter_of, entry, then, arithmetic}
use Rattle.rules.specs.declared.Value.{Value}
use Rattle.std.specs.Prelude.{Option, Some, None, Ok, Err}
use Rattle.rules.specs.declared.Refusal.TheVariants.{OutOfRange, ZeroDivisor}
use Rattle.value.specs.Guarded.{Ranged}
use Rattle.arithmetic.specs.Guarded.{kept, work, apply, lookup}
use Rattle.value.proofs.Ranges.{in_range_holds}

-- in range, if it is a value
abbrev pub Kept : Worked → Type 0
Kept (Ok v) = Ranged v.0
Kept (Err n) = Unit {0}

-- ---- every answer is in range
pub ranged_kept : (z : ℤ) → Kept (ranged z)
unfolding ranged
ranged_kept z = go (in_range z) refl
  where
    go : (c : Bool) → in_range z ≡ c → Kept (cond c (Ok (record { 0 = z })) (Err OutOfRange))
    go true e = record { size = leb-true (nat_abs z) 999999999 e }
    go false e = tt

divided_kept : (b q : ℤ) → Kept (divided b q)
divided_kept b q = go (eqb (nat_abs b) 0)
  where
    go : (c : Bool) → Kept (cond c (Err ZeroDivisor) (ranged q))
    go true = tt
    go false = ranged_kept q

pub operation_kept : (o : Op) (a b : ℤ) → Kept (operation o a b)
unfolding operation
operation_kept Add a b = ranged_kept _
operation_kept Sub a b = ranged_kept _
operation_kept Mul a b = ranged_kept _
operation_kept Div a b = divided_kept b _
operation_kept Mod a b = divided_kept b _
operation_kept And a b = ranged_kept _
operation_kept Or a b = ranged_kept _
operation_kept Xor a b = ranged_kept _

pub function_kept : (f : Func) (a : ℤ) → Kept (function f a)
unfolding function
function_kept Abs a = ranged_kept _
function_kept Fix a = ranged_kept _
function_kept Fup a = ranged_kept _
function_kept Round a = ranged_kept _

pub entry_kept : (table : List ℤ) (p : Option ℕ) → Kept (entry table p)
entry_kept table (Some n) = ranged_kept _
entry_kept table None = tt

pub written_kept : (s : Bool) (digits decimals : ℕ) → Kept (written s digits decimals)
unfolding written
written_kept s digits decimals = ranged_kept _

pub number_kept : (n : Number) → Kept (number_of n)
unfolding number_of
number_kept (num s ds f) = written_kept _ _ _

pub then_kept : (a : Worked) (k : ℤ → Worked) → ((z : ℤ) → Kept (k z)) → Kept (then a k)
then_kept (Ok v) k h = h v.0
then_kept (Err n) k h = tt

pub kept_kept : (a : Worked) → Kept (kept a)
kept_kept (Ok v) = ranged_kept v.0
kept_kept (Err n) = tt

pub work_kept : (o : Op) (a b : Worked) → Kept (work o a b)
work_kept o a b = then_kept (kept a) _ (λ x. then_kept (kept b) _ (λ y. operation_kept o x y))

pub apply_kept : (f : Func) (a : Worked) → Kept (apply f a)
apply_kept f a = then_kept (kept a) _ (function_kept f)

pub lookup_kept : (table : List ℤ) (a : Worked) → Kept (lookup table a)
lookup_kept table a = then_kept (kept a) _ (λ v. entry_kept table (parameter_of v))

-- ---- for a value in range the guard vanishes
pub kept_is : (a : Worked) → Kept a → kept a ≡ a
kept_is (Ok v) k = in_range_holds v.0 k.size
kept_is (Err n) k = refl

module _ (table : List ℤ) where
  pub work_is : (o : Op) (a b : Worked) → Kept a → Kept b → work o a b ≡ (arithmetic table).work o a b
  work_is o a b j k = rw (kept_is a j, kept_is b k)

  pub apply_is : (f : Func) (a : Worked) → Kept a → apply f a ≡ (arithmetic table).apply f a
  apply_is f a k = rw (kept_is a k)

  pub lookup_is : (a : Worked) → Kept a → lookup table a ≡ (arithmetic table).lookup a
  lookup_is a k = rw (kept_is a k)

-- ---- so a value that passed the guard is in range
pub good_kept : (a : Worked) (v : Value) → kept a ≡ Ok v → Ranged v.0
good_kept a v e = rw e at (kept_kept a)
