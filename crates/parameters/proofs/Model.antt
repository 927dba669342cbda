-- The reader of one line finds a line's derivation where there is one. So a line has at most one, and whether it has one is decided.
-- Assumes nothing.
use mathlib.Core.Path.{◌≡◌, refl, ap, ◌∙◌, subst}
use mathlib.Core.Bool.{Bool, true, false, cond, not, ◌&&◌, ◌||◌}
use mathlib.Core.List.{List, [], ◌∷◌, ◌++◌, append-nil}
use mathlib.Core.Option.{Option, none, some}
use Prim.Native.Nat.{ℕ, ◌≤◌}
use native.Mathlib.Omega.{arith}
use lib.Dec.{T, leb, eqb, eqb→eq, leb→le}
use lib.ListN.{length}
use borrow.Author.Tests.{le-leb, ne_eqb}
use Rattle.laws.proofs.Bools.{and_left, and_right, or_cases}
use Rattle.grammar.specs.Bytes.{byte, all}
use Rattle.grammar.specs.Grammar.{unsigned, plus, minus, whole, point, Number, num, NumOk, write_number, digit}
use Rattle.grammar.specs.Derivation.{blank}
use Rattle.grammar.proofs.Read.{Read, fail, got, take_while, drop_while, read_number}
use Rattle.grammar.proofs.Back.{Stops, take_back, drop_back, number_back}
use Rattle.grammar.proofs.Sound.{Good, front_of, while_good, number_good}
use Rattle.parameters.specs.File.{Entry, EntryOk, Derives, Tells, write_entry}
use Rattle.parameters.specs.Parse.{ending, parse}

-- ---- what is written is found
blank_no_digit : (b : ℕ) → T (blank b) → T (not (digit b))
blank_no_digit b t = or_cases (eqb b 32) (eqb b 9 || false) (λ h. at 32 (eqb→eq b 32 h) tt) (λ h. or_cases (eqb b 9) false (λ g. at 9 (eqb→eq b 9 g) tt) (λ g. absurd g) h) t
  where
    at : (c : ℕ) → b ≡ c → T (not (digit c)) → T (not (digit b))
    at c e p = rw e p

digit_no_blank : (b : ℕ) → T (digit b) → T (not (blank b))
digit_no_blank b t =
    let h : byte "0" ≤ b = leb→le (byte "0") b (and_left (leb (byte "0") b) (leb b (byte "9")) t) in
    rw (ne_eqb b 32 (λ e. omega arith), ne_eqb b 9 (λ e. omega arith)) tt

blanks_stop : (bs w : List ℕ) → T (all blank bs) → 1 ≤ length bs → Stops digit (bs ++ w)
blanks_stop [] w t h = absurd (omega arith)
blanks_stop (b ∷ bs) w t h = blank_no_digit b (and_left (blank b) (all blank bs) t)

number_stops : (n : Number) → NumOk n → Stops blank (write_number n)
number_stops (num plus ds f) ok = tt
number_stops (num minus ds f) ok = tt
number_stops (num unsigned [] whole) ok = absurd (omega (arith, ok.some))
number_stops (num unsigned [] (point fs)) ok = tt
number_stops (num unsigned (d ∷ ds) f) ok = digit_no_blank d (and_left (digit d) (all digit ds) ok.left)

pub found : (e : Entry) → EntryOk e → parse (write_entry e) ≡ some e
unfolding parse
found e ok =
    let w = write_number e.value in
    let r = e.blanks ++ w in
    let stop : Stops digit r = blanks_stop e.blanks w ok.blanks ok.apart in
    let stop' : Stops blank w = number_stops e.value ok.number in
    let n : read_number w ≡ got e.value [] = rw (append-nil w) at (number_back e.value [] ok.number tt) in
    rw (take_back digit e.digits r ok.digits stop, drop_back digit e.digits r ok.digits stop)
    (rw (take_back blank e.blanks w ok.blanks stop', drop_back blank e.blanks w ok.blanks stop')
    (rw n (rw (le-leb 1 (length e.digits) ok.some, le-leb 1 (length e.blanks) ok.apart))))

-- ---- what is found was written
module _ (p : ℕ → Bool) where
  while_all : (s : List ℕ) → T (all p (take_while p s))
  while_all [] = tt
  while_all (b ∷ s) = go (p b) refl (while_all s)
    where
      go : (c : Bool) → p b ≡ c → T (all p (take_while p s)) → T (all p (cond c (b ∷ take_while p s) []))
      go true e h = rw e h
      go false e h = tt

pub sound : (s : List ℕ) (e : Entry) → parse s ≡ some e → Derives e s
unfolding parse
sound s e q =
    let ds = take_while digit s in
    let r = drop_while digit s in
    let bs = take_while blank r in
    let w = drop_while blank r in
    go ds r bs w (while_good digit s) (while_all digit s) (while_good blank r) (while_all blank r) (read_number w) (number_good w) q
  where
    go : (ds r bs w : List ℕ) → s ≡ ds ++ r → T (all digit ds) → r ≡ bs ++ w → T (all blank bs) → (m : Read Number) → Good write_number NumOk w m → ending ds bs m ≡ some e → Derives e s
    go ds r bs w a b c d (fail z) g q = absurd (let z : ◌≡◌ {A = ℕ} 0 1 = cc in omega arith)
    go ds r bs w a b c d (got n (x ∷ t)) g q = absurd (let z : ◌≡◌ {A = ℕ} 0 1 = cc in omega arith)
    go ds r bs w a b c d (got n []) g q = last (leb 1 (length ds) && leb 1 (length bs)) refl q
      where
        last : (k : Bool) → (leb 1 (length ds) && leb 1 (length bs)) ≡ k → cond k (some (record { digits = ds; blanks = bs; value = n })) none ≡ some e → Derives e s
        last false k u = absurd (let z : ◌≡◌ {A = ℕ} 0 1 = cc in omega arith)
        last true k u =
            let both : T (leb 1 (length ds) && leb 1 (length bs)) = rw k tt in
            let f = front_of g in
            let this : Entry = record { digits = ds; blanks = bs; value = n } in
            let same : this ≡ e = cc in
            let ok : EntryOk this = record { digits = b; blanks = d; some = leb→le 1 (length ds) (and_left (leb 1 (length ds)) (leb 1 (length bs)) both); apart = leb→le 1 (length bs) (and_right (leb 1 (length ds)) (leb 1 (length bs)) both); number = f.1 } in
            let writes : s ≡ write_entry this = a ∙ ap (λ (l : List ℕ). ds ++ l) (c ∙ ap (λ (l : List ℕ). bs ++ l) (f.0 ∙ append-nil (write_number n))) in
            subst (λ (x : Entry). Derives x s) same (record { ok = ok; writes = writes })

-- ---- a line has at most one derivation, and the reader tells it, or that there is none
pub unique : {e e' : Entry} {s : List ℕ} → Derives e s → Derives e' s → e ≡ e'
unique {e} {e'} {s} d d' =
    let a : parse s ≡ some e = rw d.writes (found e d.ok) in
    let b : parse s ≡ some e' = rw d'.writes (found e' d'.ok) in
    cc

pub parse_tells : Tells parse
parse_tells s = record { by_tree = λ e d. rw d.writes (found e d.ok); by_none = λ h. go h (parse s) refl }
  where
    go : ((e : Entry) → ¬ Derives e s) → (o : Option Entry) → parse s ≡ o → o ≡ none
    go h none q = refl
    go h (some e) q = absurd (h e (sound s e q))

-- whatever tells it tells the same
pub tells_one : (tree : List ℕ → Option Entry) → Tells tree → (s : List ℕ) → tree s ≡ parse s
tells_one tree t s = go (parse s) refl
  where
    go : (o : Option Entry) → parse s ≡ o → tree s ≡ o
    go (some e) q = (t s).by_tree e (sound s e q)
    go none q = (t s).by_none (λ e d. let z : ◌≡◌ {A = ℕ} 0 1 = cc ((parse_tells s).by_tree e d) in omega arith)
