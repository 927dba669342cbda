-- Each public function's contract allows one result.
-- Assumes nothing.
use mathlib.Core.Path.{◌≡◌, refl, sym, ap, ◌∙◌}
use mathlib.Core.Bool.{cond}
use mathlib.Core.List.{List}
use Prim.Native.Nat.{ℕ}
use lib.Dec.{eqb}
use lib.IntN.{ℤ}
use Rattle.std.specs.Prelude.{Result, Ok, Err}
use Rattle.laws.proofs.Sole.{Sole, alike}
use Rattle.rules.specs.declared.Record.{Record}
use Rattle.parameters.specs.Refusal.{refusal_number}
use Rattle.parameters.specs.Reading.{loaded_as}
use Rattle.parameters.specs.Writing.{saved_as}
use Rattle.parameters.specs.Parse.{parse}
use Rattle.parameters.specs.declared.refusal.FileRefusal.{FileRefusal}
use Rattle.parameters.specs.declared.refusal.FileRefusal.TheVariants.{Disorder, Malformed, NotRising, NumberOutOfRange, ValueUnfit, NoRoom}
use Rattle.parameters.proofs.Model.{parse_tells}
use Rattle.parameters.proofs.Going.{some_number}
use Rattle.parameters.specs.contracts.load.read as read
use Rattle.parameters.specs.contracts.load.refused_line as refused_line
use Rattle.parameters.specs.contracts.save.write as write
use Rattle.parameters.specs.contracts.refusal.FileRefusal.number as number

-- ---- a refusal is told by its number
abbrev known : ℕ → FileRefusal
known n = cond (eqb n 1) Disorder (cond (eqb n 20) Malformed (cond (eqb n 21) NotRising (cond (eqb n 22) NumberOutOfRange (cond (eqb n 23) ValueUnfit NoRoom))))

known_number : (why : FileRefusal) → known (refusal_number why) ≡ why
known_number Disorder = refl
known_number Malformed = refl
known_number NotRising = refl
known_number NumberOutOfRange = refl
known_number ValueUnfit = refl
known_number NoRoom = refl

one_refusal : {a b : FileRefusal} → refusal_number a ≡ refusal_number b → a ≡ b
one_refusal {a} {b} e = sym (known_number a) ∙ ap known e ∙ known_number b

-- what reading and writing leave tells the answer
one_loaded : (a b : Result Record FileRefusal) (r : Record) (t u : List ℤ) → loaded_as a r t ≡ loaded_as b r u → (a ≡ b) × (t ≡ u)
one_loaded (Ok x) (Ok y) r t u e = (ap (λ l. Ok l.rec) e, ap (λ l. l.table) e)
one_loaded (Ok x) (Err y) r t u e = absurd (some_number y (sym (ap (λ l. l.number) e)))
one_loaded (Err x) (Ok y) r t u e = absurd (some_number x (ap (λ l. l.number) e))
one_loaded (Err x) (Err y) r t u e = (ap Err (one_refusal (ap (λ l. l.number) e)), ap (λ l. l.table) e)

one_saved : (a b : Result ℕ FileRefusal) (t u : List ℕ) → saved_as a t ≡ saved_as b u → (a ≡ b) × (t ≡ u)
one_saved (Ok x) (Ok y) t u e = (ap (λ s. Ok s.count) e, ap (λ s. s.out) e)
one_saved (Ok x) (Err y) t u e = absurd (some_number y (sym (ap (λ s. s.number) e)))
one_saved (Err x) (Ok y) t u e = absurd (some_number x (ap (λ s. s.number) e))
one_saved (Err x) (Err y) t u e = (ap Err (one_refusal (ap (λ s. s.number) e)), ap (λ s. s.out) e)

pub read_sole : Sole read.ended (λ M 𝓤. read.clauses)
read_sole = record {
  says = _;
  is = λ M 𝓤 𝓛 m n κs a g r e. refl;
  one = λ κs a r r' ws ws' p q.
      let e = one_loaded r r' a.1.0 ws.1.1.0 ws'.1.1.0 (alike (p parse parse_tells) (q parse parse_tells)) in
      (e.0, λ i. (tt, (tt, (e.1 i, tt))));
}

pub refused_line_sole : Sole refused_line.ended (λ M 𝓤. refused_line.clauses)
refused_line_sole = record { says = _; is = λ M 𝓤 𝓛 m n κs a g r e. refl; one = λ κs a r r' ws ws' p q. (alike (p parse parse_tells) (q parse parse_tells), refl) }

pub write_sole : Sole write.ended (λ M 𝓤. write.clauses)
write_sole = record {
  says = _;
  is = λ M 𝓤 𝓛 m n κs a g r e. refl;
  one = λ κs a r r' ws ws' p q.
      let e = one_saved r r' ws.1.1.0 ws'.1.1.0 (alike p q) in
      (e.0, λ i. (tt, (tt, (e.1 i, tt))));
}

pub number_sole : Sole number.ended (λ M 𝓤. number.clauses)
number_sole = record { says = _; is = λ M 𝓤 𝓛 m n κs a g r e. refl; one = λ κs a r r' ws ws' p q. (alike p q, refl) }
