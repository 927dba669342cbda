-- The promise read one number at a time, as document 01's table of numbers is read. `told`: each number with its condition. `untold`: those sentences say no less
-- than the promise. `exactly`: a number is given "exactly when no earlier one applies and" its condition holds; a skip, which has two causes, `skips_exactly`.
-- Assumes nothing.
use mathlib.Core.Path.{◌≡◌, refl, ap, ◌∙◌, sym, subst}
use mathlib.Core.Bool.{Bool, true, false, cond, not, ◌&&◌, ◌||◌}
use mathlib.Core.List.{List, [], ◌∷◌, ◌++◌}
use mathlib.Core.Logic.{◌↔◌, ◌⊎◌, inl, inr, ⊎_elim}
use Prim.Native.Nat.{ℕ, ◌*◌}
use native.Mathlib.Omega.{arith}
use lib.Dec.{T, eqb, ltb, eqb→eq, eqb_refl, T_not}
use lib.ListN.{length, drop}
use lib.IntN.{ℤ}
use Rattle.laws.proofs.Bools.{and_left, and_right, or_cases, T-eq}
use Rattle.grammar.specs.Grammar.{Line}
use Rattle.grammar.specs.Derivation.{Derives, Place, Form, derived, breaks_at}
use Rattle.grammar.specs.Working.{Contents, contents}
use Rattle.grammar.proofs.Derivations.{decided}
use Rattle.grammar.proofs.Stuck.{stuck_at, breaks}
use Rattle.grammar.proofs.ByForm.{form_of}
use Rattle.rules.specs.Named.{refusal_of}
use Rattle.rules.specs.Meaning.{Entry, arithmetic, reading, Said, words, meets}
use Rattle.rules.specs.Block.{block_of}
use Rattle.rules.specs.Steps.{ready}
use Rattle.rules.specs.Arcs.{arc_move, bad_arc}
use Rattle.rules.specs.Commands.{commands}
use Rattle.rules.specs.Refusals.{Case, ◌when◌, first, unserved, doubled, missing, idle, wrong_word, wrong_mode, too_far}
use Rattle.rules.specs.Promise.{After, Right, answer, answer_to, leaving, misformed, accepted, by_number, numbers, underived, place_in, taken, number_of, disorder, unread, too_deep}
use Rattle.rules.specs.declared.Block.{Block}
use Rattle.rules.specs.declared.Record.{Record}
use Rattle.rules.specs.declared.Answer.TheVariants.{Refused, Skipped}
use Rattle.rules.proofs.Answers.{first_carriable}
use Rattle.rules.proofs.Demands.{by_model, number_is, three, lacks, lacking}

-- ---- one law about an ordered list of numbers with their conditions

-- no condition that stands before number n holds
abbrev pub none_before : ℕ → List Case → Bool
none_before n [] = true
none_before n ((k when c) ∷ cs) = eqb k n || not c && none_before n cs

-- the condition of number n; 0 has none
abbrev pub condition : ℕ → List Case → Bool
condition n [] = eqb n 0
condition n ((k when c) ∷ cs) = cond (eqb k n) c (condition n cs)

-- no earlier one applies and its own does: it is given
pub given : (n : ℕ) (cs : List Case) → T (none_before n cs) → T (condition n cs) → first cs ≡ n
given n [] t u = sym (eqb→eq n 0 u)
given n ((k when c) ∷ cs) t u = go (eqb k n) c refl t u (λ p q. given n cs p q)
  where
    go : (x c : Bool) → eqb k n ≡ x → T (x || not c && none_before n cs) → T (cond x c (condition n cs)) → (T (none_before n cs) → T (condition n cs) → first cs ≡ n) → first ((k when c) ∷ cs) ≡ n
    go true true e t u f = eqb→eq k n (subst T (sym e) tt)
    go true false e t u f = absurd u
    go false true e t u f = absurd t
    go false false e t u f = f t u

-- each number stands once, but for one number
abbrev pub distinct_but : ℕ → List Case → Bool
distinct_but m [] = true
distinct_but m ((n when c) ∷ cs) = (eqb n m || lacks n cs) && distinct_but m cs

-- and it is given only then
pub given_only : (m n : ℕ) (cs : List Case) → T (distinct_but m cs) → (n ≡ m → ⊥) → first cs ≡ n → T (none_before n cs) × T (condition n cs)
given_only m n [] d u e = (tt, subst (λ (k : ℕ). T (eqb k 0)) e tt)
given_only m n ((k when true) ∷ cs) d u e = rw (T-eq (eqb k n) (subst (λ (x : ℕ). T (eqb k x)) e (eqb_refl k))) (tt, tt)
given_only m n ((k when false) ∷ cs) d u e = go (eqb k n) refl (given_only m n cs (and_right (eqb k m || lacks k cs) (distinct_but m cs) d) u e)
  where
    go : (x : Bool) → eqb k n ≡ x → T (none_before n cs) × T (condition n cs) → T (x || none_before n cs) × T (cond x false (condition n cs))
    go true p f =
        let same : k ≡ n = eqb→eq k n (subst T (sym p) tt) in
        or_cases (eqb k m) (lacks k cs) (λ q. absurd (u (sym same ∙ eqb→eq k m q))) (λ q. absurd (lacking k cs q (e ∙ sym same))) (and_left (eqb k m || lacks k cs) (distinct_but m cs) d)
    go false p f = f

-- no condition of a list holds
abbrev pub none_of : List Case → Bool
none_of [] = true
none_of ((k when c) ∷ cs) = not c && none_of cs

-- what stands behind them is first
behind : (xs ys : List Case) → T (none_of xs) → first (xs ++ ys) ≡ first ys
behind [] ys t = refl
behind ((k when true) ∷ xs) ys t = absurd t
behind ((k when false) ∷ xs) ys t = behind xs ys t

-- a number that stands twice is given at the first place or at the second
abbrev absent : ℕ → List Case → Bool
absent n [] = true
absent n ((k when c) ∷ cs) = not (eqb k n) && absent n cs

at_second : (n : ℕ) (ys : List Case) (d : Bool) (zs : List Case) → T (absent n ys) → T (lacks n zs) → first (ys ++ (n when d) ∷ zs) ≡ n → T (none_of ys) × T d
at_second n [] true zs y z e = (tt, tt)
at_second n [] false zs y z e = absurd (lacking n zs z e)
at_second n ((k when true) ∷ ys) d zs y z e = absurd (T_not (eqb k n) (and_left (not (eqb k n)) (absent n ys) y) (subst (λ (x : ℕ). T (eqb k x)) e (eqb_refl k)))
at_second n ((k when false) ∷ ys) d zs y z e = at_second n ys d zs (and_right (not (eqb k n)) (absent n ys) y) z e

at_either : (n : ℕ) (xs : List Case) (c : Bool) (ys : List Case) (d : Bool) (zs : List Case) → T (absent n xs) → T (absent n ys) → T (lacks n zs) →
    first (xs ++ (n when c) ∷ (ys ++ (n when d) ∷ zs)) ≡ n → (T (none_of xs) × T c) ⊎ (T (none_of (xs ++ (n when c) ∷ ys)) × T d)
at_either n [] true ys d zs x y z e = inl (tt, tt)
at_either n [] false ys d zs x y z e = inr (at_second n ys d zs y z e)
at_either n ((k when true) ∷ xs) c ys d zs x y z e = absurd (T_not (eqb k n) (and_left (not (eqb k n)) (absent n xs) x) (subst (λ (w : ℕ). T (eqb k w)) e (eqb_refl k)))
at_either n ((k when false) ∷ xs) c ys d zs x y z e = at_either n xs c ys d zs (and_right (not (eqb k n)) (absent n xs) x) y z e

module _ (line : List ℕ) (switch : Bool) (r : Record) (table out : List ℤ) where
  -- what a derivation gives: all that is read, its words, its summary, and the record as the motion step finds it
  abbrev read : Line → Contents Entry
  read t = contents (arithmetic table) t

  abbrev words_of : Line → List Said
  words_of t = words (read t).entries

  abbrev block : Line → Block
  block t = block_of (words_of t)

  abbrev then : Line → Record
  then t = ready (block t) r

  -- the numbers judged before the form is, and all of them for a line's form
  abbrev pub early : List Case
  early = (1 when disorder r table) ∷ (2 when ltb 256 (length line)) ∷ (100 when unread switch line) ∷ []

  abbrev pub cases : Form Line → List Case
  cases f =
      let e = reading table f in
      numbers (underived e) (taken e) (block_of (words (taken e).entries)) line switch r table (length out)

  -- the numbers judged before a condition is worked out
  abbrev pub unasked : Line → List Case
  unasked t = early ++ (3 when false) ∷ (16 when too_deep (read t)) ∷ []

  abbrev pub refused : ℕ → After
  refused n = leaving (Refused (refusal_of n)) r table out

  pub record Told (a : After) : Type 0 where
    pub disordered : disorder r table ≡ true → a ≡ refused 1
    pub too_long : T (none_before 2 early) → ltb 256 (length line) ≡ true → a ≡ refused 2
    pub skipped : T (none_before 100 early) → unread switch line ≡ true → a ≡ leaving Skipped r table out
    pub underivable : T (none_before 3 early) → ((t : Line) → ¬ Derives t line) → (n : ℕ) → Place line n → a ≡ misformed n r table out
    pub nests_deep : (t : Line) → Derives t line → T (none_before 16 (cases (derived t))) → too_deep (read t) ≡ true → a ≡ refused 16
    pub says_no : (t : Line) → Derives t line → T (none_of (unasked t)) → meets (read t).entries 100 ≡ true → a ≡ leaving Skipped r table out
    pub too_fine : (t : Line) → Derives t line → T (none_before 4 (cases (derived t))) → meets (read t).entries 4 ≡ true → a ≡ refused 4
    pub out_of_range : (t : Line) → Derives t line → T (none_before 5 (cases (derived t))) → meets (read t).entries 5 ≡ true → a ≡ refused 5
    pub by_zero : (t : Line) → Derives t line → T (none_before 6 (cases (derived t))) → meets (read t).entries 6 ≡ true → a ≡ refused 6
    pub no_parameter : (t : Line) → Derives t line → T (none_before 7 (cases (derived t))) → meets (read t).entries 7 ≡ true → a ≡ refused 7
    pub not_served : (t : Line) → Derives t line → T (none_before 8 (cases (derived t))) → unserved (words_of t) ≡ true → a ≡ refused 8
    pub given_twice : (t : Line) → Derives t line → T (none_before 9 (cases (derived t))) → doubled (words_of t) (block t) ≡ true → a ≡ refused 9
    pub missing_or_idle : (t : Line) → Derives t line → T (none_before 10 (cases (derived t))) → (missing (block t) (then t) || idle (block t) (then t)) ≡ true → a ≡ refused 10
    pub bad_word : (t : Line) → Derives t line → T (none_before 11 (cases (derived t))) → wrong_word (block t) ≡ true → a ≡ refused 11
    pub bad_mode : (t : Line) → Derives t line → T (none_before 12 (cases (derived t))) → wrong_mode (block t) (then t) ≡ true → a ≡ refused 12
    pub out_of_reach : (t : Line) → Derives t line → T (none_before 13 (cases (derived t))) → too_far (block t) (then t) ≡ true → a ≡ refused 13
    pub unequal_radii : (t : Line) → Derives t line → T (none_before 14 (cases (derived t))) → (arc_move (block t) (then t) && bad_arc (block t) (then t)) ≡ true → a ≡ refused 14
    pub no_room : (t : Line) → Derives t line → T (none_before 15 (cases (derived t))) → ltb (length out) (8 * length (commands (block t) (then t))) ≡ true → a ≡ refused 15
    pub works : (t : Line) → Derives t line → T (none_before 0 (cases (derived t))) → a ≡ accepted (read t) (block t) r table out

  -- ---- told
  abbrev left_by : Form Line → ℕ → After
  left_by f n = by_number n (place_in (reading table f)) (taken (reading table f)) (block_of (words (taken (reading table f)).entries)) r table out

  by_first : (f : Form Line) (n : ℕ) → first (cases f) ≡ n → answer f line switch r table out ≡ left_by f n
  unfolding answer_to
  by_first f n e = ap (left_by f) e

  by_given : (f : Form Line) (n : ℕ) → T (none_before n (cases f)) → T (condition n (cases f)) →
      answer f line switch r table out ≡ left_by f n
  by_given f n t u = by_first f n (given n (cases f) t u)

  pub told : {a : After} → Right line switch r table out a → Told a
  told {a} p = record {
    disordered = λ c. early_number 1 tt (holds c);
    too_long = λ h c. early_number 2 h (holds c);
    skipped = λ h c. early_number 100 h (holds c);
    underivable = λ h d n w. p.by_place d n w ∙ by_given (breaks_at n) 3 h tt;
    nests_deep = λ t d h c. later_number t d 16 h (holds c);
    says_no = λ t d h c. p.by_tree t d ∙ by_first (derived t) 100 (behind (unasked t) (drop 5 (cases (derived t))) h ∙ rw c);
    too_fine = λ t d h c. later_number t d 4 h (holds c);
    out_of_range = λ t d h c. later_number t d 5 h (holds c);
    by_zero = λ t d h c. later_number t d 6 h (holds c);
    no_parameter = λ t d h c. later_number t d 7 h (holds c);
    not_served = λ t d h c. later_number t d 8 h (holds c);
    given_twice = λ t d h c. later_number t d 9 h (holds c);
    missing_or_idle = λ t d h c. later_number t d 10 h (holds c);
    bad_word = λ t d h c. later_number t d 11 h (holds c);
    bad_mode = λ t d h c. later_number t d 12 h (holds c);
    out_of_reach = λ t d h c. later_number t d 13 h (holds c);
    unequal_radii = λ t d h c. later_number t d 14 h (holds c);
    no_room = λ t d h c. later_number t d 15 h (holds c);
    works = λ t d h. later_number t d 0 h tt;
  }
    where
      holds : {c : Bool} → c ≡ true → T c
      holds e = subst T (sym e) tt

      f : Form Line
      f = form_of line

      early_number : (n : ℕ) → T (none_before n (cases f)) → T (condition n (cases f)) → a ≡ left_by f n
      early_number n t u = by_model line switch r table out p ∙ by_given f n t u

      later_number : (t : Line) → Derives t line → (n : ℕ) → T (none_before n (cases (derived t))) → T (condition n (cases (derived t))) → a ≡ left_by (derived t) n
      later_number t d n h c = p.by_tree t d ∙ by_given (derived t) n h c

  -- ---- and back
  -- a sentence for each number of a list: what holds of it where no earlier one applies and its condition does; and for 0 where none does
  abbrev Sentences : (Bool → Bool) → List Case → (ℕ → Type 0) → Type 0
  Sentences before [] P = T (before true) → P 0
  Sentences before ((n when c) ∷ cs) P = (T (before true) → c ≡ true → P n) × Sentences (λ x. before (not c && x)) cs P

  by_sentences : (before : Bool → Bool) (cs : List Case) (P : ℕ → Type 0) → T (before true) → Sentences before cs P → P (first cs)
  by_sentences before [] P t s = s t
  by_sentences before ((n when true) ∷ cs) P t s = s.0 t refl
  by_sentences before ((n when false) ∷ cs) P t s = by_sentences before cs P t s.1

  never : (x y z : Bool) → T (not x && (not y && (not z && false))) → ⊥
  never true y z t = t
  never false true z t = t
  never false false true t = t
  never false false false t = t

  pub untold : {a : After} → Told a → Right line switch r table out a
  unfolding answer_to
  untold {a} s = record {
    by_tree = λ t d. by_sentences (λ x. x) (cases (derived t)) (λ n. a ≡ left_by (derived t) n) tt (
      λ _ c. s.disordered c,
      (
        s.too_long,
        (
          s.skipped,
          (
            λ _ c. absurd (subst T (sym c) tt),
            (
              s.nests_deep t d,
              (
                s.says_no t d,
                (
                  s.too_fine t d,
                  (
                    s.out_of_range t d,
                    (
                      s.by_zero t d,
                      (
                        s.no_parameter t d,
                        (
                          s.not_served t d,
                          (
                            s.given_twice t d,
                            (
                              s.missing_or_idle t d,
                              (
                                s.bad_word t d,
                                (s.bad_mode t d, (s.out_of_reach t d, (s.unequal_radii t d, (s.no_room t d, s.works t d)))),
                              ),
                            ),
                          ),
                        ),
                      ),
                    ),
                  ),
                ),
              ),
            ),
          ),
        ),
      ),
    );
    by_place = λ h n w. by_sentences (λ x. x) (early ++ (3 when true) ∷ []) (λ k. a ≡ left_by (breaks_at n) k) tt
        (λ _ c. s.disordered c, (s.too_long, (s.skipped, (λ k _. s.underivable k h n w, λ k. absurd (never (disorder r table) (ltb 256 (length line)) (unread switch line) k)))));
  }

  -- ---- exactly
  module _ {a : After} (p : Right line switch r table out a) (t : Line) (d : Derives t line) where
    number_first : number_of a.outcome.answer ≡ first (cases (derived t))
    unfolding answer_to
    number_first = ap (λ (x : After). number_of x.outcome.answer) (p.by_tree t d) ∙ number_is (first (cases (derived t))) 0 (read t) (block t) r table out (first_carriable (cases (derived t)) tt)

    pub exactly : (n : ℕ) → (n ≡ 100 → ⊥) → (number_of a.outcome.answer ≡ n) ↔ (T (none_before n (cases (derived t))) × T (condition n (cases (derived t))))
    exactly n u =
        let cs = cases (derived t) in
        (λ q. given_only 100 n cs tt u (sym number_first ∙ q), λ h. number_first ∙ given n cs h.0 h.1)

    -- unread, or by its condition
    pub skips_exactly : (number_of a.outcome.answer ≡ 100) ↔ ((T (none_before 100 early) × T (unread switch line)) ⊎ (T (none_of (unasked t)) × T (meets (read t).entries 100)))
    skips_exactly = (
      λ q. at_either 100 ((1 when disorder r table) ∷ (2 when ltb 256 (length line)) ∷ []) (unread switch line) ((3 when false) ∷ (16 when too_deep (read t)) ∷ []) (meets (read t).entries 100) (drop 6 (cases (derived t))) tt tt tt (sym number_first ∙ q),
      λ h. number_first ∙ back h,
    )
      where
        back : (T (none_before 100 early) × T (unread switch line)) ⊎ (T (none_of (unasked t)) × T (meets (read t).entries 100)) → first (cases (derived t)) ≡ 100
        back (inl h) = given 100 (cases (derived t)) h.0 h.1
        back (inr h) = behind (unasked t) (drop 5 (cases (derived t))) h.0 ∙ rw (T-eq (meets (read t).entries 100) h.1)

  -- "Refusal 3 also gives a place": that of the line
  pub place_3 : {a : After} → Right line switch r table out a → number_of a.outcome.answer ≡ 3 → Place line a.place
  unfolding answer_to
  place_3 {a} p h = ⊎_elim
      (λ w. absurd ((exactly p w.0 w.1 3 (λ e. omega (arith, e))).0 h).1)
      (λ n. subst (λ (x : After). Place line x.place) (sym (three_to n)) (breaks line n))
      (decided line)
    where
      three_to : ((t : Line) → ¬ Derives t line) → a ≡ misformed (stuck_at line) r table out
      three_to n =
          let e = p.by_place n (stuck_at line) (breaks line n) in
          let c : Form (Contents Entry) = breaks_at (stuck_at line) in
          e ∙ three (first (numbers true (taken c) (block_of []) line switch r table (length out))) (stuck_at line) (taken c) (block_of []) r table out (first_carriable (numbers true (taken c) (block_of []) line switch r table (length out)) tt) (sym (ap (λ (x : After). number_of x.outcome.answer) e) ∙ h)
