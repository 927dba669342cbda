-- Two results that one contract allows are equal. It is said of the contract that the source has (`F.ended` and `F.clauses`), for every function,
-- proved by hand or not: `f_sole : Sole f.ended (λ M 𝓤. f.clauses)`.
-- Assumes nothing.
use mathlib.Core.Path.{◌≡◌, sym, ◌∙◌}
use seplogic.Ra.Ura.{Ura}
use base.Logic.{SProp, ent}
use prog.Memory.{Memory}
use prog.Routine.{Routine}
use types.Logic.{Logic}
use contract.Monad.{Fun, fact, fact_i, fact_use, conj, conj_l, conj_r}
use contract.Lifetimes.{Lfts}
use denote.Triple.Entry.{Args, Res}
use denote.Triple.Clauses.{Ended, Clauses, Lasts, AtExit, at_exit}

-- a contract, at every model: the type of a function's `clauses`
abbrev pub Wording : Ended → Type 2
Wording T = (M : Type 1) (𝓤 : Ura M) (𝓛 : Logic 𝓤) → (Memory → SProp 𝓤) → (Routine → Fun 𝓤) → Clauses 𝓤 T

-- says: the `ensures` as a plain fact of the arguments, the result and the parameters at exit. is: it is that fact and nothing else, at every model.
-- one: whatever the arguments, two results of which it holds are equal, and so is what each lent space holds afterwards. (ws has a part for each
-- parameter: what a `&mut` holds last, and `tt` for any other.)
pub record Sole (T : Ended) (C : Wording T) : Type 2 where
  pub says : (κs : Lfts T.signature.lifetimes) → Args T.signature κs → Res T.signature κs → AtExit T κs → Type 0
  pub is : (M : Type 1) (𝓤 : Ura M) (𝓛 : Logic 𝓤) (mem : Memory → SProp 𝓤) (run : Routine → Fun 𝓤) (κs : Lfts T.signature.lifetimes) (a : Args T.signature κs) (g : (C M 𝓤 𝓛 mem run κs a).ghost) (r : Res T.signature κs) (e : AtExit T κs)
      → (C M 𝓤 𝓛 mem run κs a).ensures g r e ≡ fact 𝓤 (says κs a r e)
  pub one : (κs : Lfts T.signature.lifetimes) (a : Args T.signature κs) (r r' : Res T.signature κs) (ws ws' : Lasts T κs a)
      → says κs a r (at_exit T κs a ws) → says κs a r' (at_exit T κs a ws') → (r ≡ r') × (ws ≡ ws')

-- two things equal to a third
pub alike : {A : Type 0} {x y z : A} → x ≡ z → y ≡ z → x ≡ y
alike p q = p ∙ sym q

-- the same inside the logic: where both are held, they are equal
module _ {T : Ended} {C : Wording T} (s : Sole T C) where
  pub at_any_model : (M : Type 1) (𝓤 : Ura M) (𝓛 : Logic 𝓤) (mem : Memory → SProp 𝓤) (run : Routine → Fun 𝓤) (κs : Lfts T.signature.lifetimes) (a : Args T.signature κs) (g g' : (C M 𝓤 𝓛 mem run κs a).ghost) (r r' : Res T.signature κs) (ws ws' : Lasts T κs a)
      → ent 𝓤 (conj 𝓤 ((C M 𝓤 𝓛 mem run κs a).ensures g r (at_exit T κs a ws)) ((C M 𝓤 𝓛 mem run κs a).ensures g' r' (at_exit T κs a ws'))) (fact 𝓤 ((r ≡ r') × (ws ≡ ws')))
  at_any_model M 𝓤 𝓛 mem run κs a g g' r r' ws ws' =
      let P : Type 0 = s.says κs a r (at_exit T κs a ws) in
      let Q : Type 0 = s.says κs a r' (at_exit T κs a ws') in
      rw (s.is M 𝓤 𝓛 mem run κs a g r (at_exit T κs a ws), s.is M 𝓤 𝓛 mem run κs a g' r' (at_exit T κs a ws'))
      (fact_use 𝓤 P (conj_l 𝓤 (fact 𝓤 P) (fact 𝓤 Q)) (λ p. fact_use 𝓤 Q (conj_r 𝓤 (fact 𝓤 P) (fact 𝓤 Q)) (λ q. fact_i 𝓤 ((r ≡ r') × (ws ≡ ws')) (conj 𝓤 (fact 𝓤 P) (fact 𝓤 Q)) (s.one κs a r r' ws ws' p q))))
