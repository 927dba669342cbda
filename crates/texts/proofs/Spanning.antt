-- The line at a place is the next one of the text's lines, with its end.
-- Assumes nothing.
use mathlib.Core.Path.{◌≡◌, refl, sym, ap, subst, ◌∙◌}
use mathlib.Core.Bool.{Bool, true, false, cond, not}
use mathlib.Core.List.{List, [], ◌∷◌, ◌++◌, map}
use Prim.Native.Nat.{ℕ, zero, suc, ◌+◌, ◌-◌, ◌≤◌, ◌<◌}
use native.Mathlib.Omega.{arith}
use borrow.Author.Tests.{eq-eqb, ne_eqb, eqb-true, ltb-true, ltb-false, lt-ltb, le-ltb}
use lib.Dec.{eqb, ltb}
use lib.ListN.{length, get_or, take, drop, drop_of_length-le, length-drop, length-append}
use lib.Seq.{split_at, take-length, drop-drop, length-take-le, get_or-drop, take-suc}
use Rattle.std.proofs.lemmas.List.{take-take, drop-take}
use Rattle.std.specs.Prelude.{Some, None}
use Rattle.std.specs.List.{slice_range, position}
use Rattle.grammar.specs.Bytes.{byte, bytes}
use Rattle.rules.specs.Frames.{without_return, lines}
use Rattle.texts.specs.Ends.{Piece, piece, return_of, pieces}
use Rattle.texts.specs.Places.{before_feed, line_at, Spans}
use Rattle.texts.proofs.Cutting.{unfed, unfed_cons, feed_is, last_is, return_front, lines_are, line_of}

-- ---- a carriage return at the end of a line

-- a last byte that is a carriage return is dropped, and another is not
pub return_last : (l : List ℕ) (b : ℕ) → length (without_return (l ++ b ∷ [])) ≡ cond (eqb b (byte "\r")) (length l) (suc (length l))
return_last [] b = by (eqb b (byte "\r"))
  where
    by : (t : Bool) → length (cond t [] (b ∷ [])) ≡ cond t 0 1
    by true = refl
    by false = refl
return_last (c ∷ []) b = by (eqb b (byte "\r"))
  where
    by : (t : Bool) → suc (length (cond t [] (b ∷ []))) ≡ cond t 1 2
    by true = refl
    by false = refl
return_last (c ∷ d ∷ l) b = ap suc (return_last (d ∷ l) b) ∙ by (eqb b (byte "\r"))
  where
    by : (t : Bool) → suc (cond t (length (d ∷ l)) (suc (length (d ∷ l)))) ≡ cond t (length (c ∷ d ∷ l)) (suc (length (c ∷ d ∷ l)))
    by true = refl
    by false = refl

module _ (line front : List ℕ) (b : ℕ) (e : line ≡ front ++ b ∷ []) where
  pub return_dropped : b ≡ byte "\r" → length front ≡ length (without_return line)
  return_dropped h = sym (ap (λ (x : List ℕ). length (without_return x)) e ∙ return_last front b ∙ rw (eq-eqb b (byte "\r") h))

  pub return_kept : (b ≡ byte "\r" → ⊥) → length line ≡ length (without_return line)
  return_kept h = rw (e, return_last front b, ne_eqb b (byte "\r") h) (omega (arith, length-append front (b ∷ [])))

pub return_shorter : (l : List ℕ) → length (without_return l) ≤ length l
return_shorter [] = omega arith
return_shorter (b ∷ []) = by (eqb b (byte "\r"))
  where
    by : (t : Bool) → length (cond t [] (b ∷ [])) ≤ 1
    by true = omega arith
    by false = omega arith
return_shorter (b ∷ c ∷ l) = let k = return_shorter (c ∷ l) in omega arith

-- ---- what stands before a line feed
unfed_before : (s : List ℕ) (j : ℕ) → j ≤ before_feed s → unfed (take j s)
unfed_before s zero h = refl
unfed_before [] (suc j) h = refl
unfed_before (b ∷ s) (suc j) h = by (eqb b (byte "\n")) refl h (λ k. unfed_before s j k)
  where
    by : (t : Bool) → eqb b (byte "\n") ≡ t → suc j ≤ cond (not t) (1 + before_feed s) 0 → (j ≤ before_feed s → unfed (take j s)) → unfed (b ∷ take j s)
    by true e k f = absurd (omega arith)
    by false e k f = unfed_cons b (take j s) e (f (omega arith))

feed_at : (s : List ℕ) → before_feed s < length s → get_or s (before_feed s) 0 ≡ byte "\n"
feed_at [] h = absurd (omega arith)
feed_at (b ∷ s) h = by (eqb b (byte "\n")) refl h (λ k. feed_at s k)
  where
    by : (t : Bool) → eqb b (byte "\n") ≡ t → cond (not t) (1 + before_feed s) 0 < suc (length s) → (before_feed s < length s → get_or s (before_feed s) 0 ≡ byte "\n")
        → get_or (b ∷ s) (cond (not t) (1 + before_feed s) 0) 0 ≡ byte "\n"
    by true e k f = eqb-true b (byte "\n") e
    by false e k f = let z : 1 + before_feed s ≡ suc (before_feed s) = omega arith in rw z (f (omega arith))

pub before_most : (s : List ℕ) → before_feed s ≤ length s
before_most [] = omega arith
before_most (b ∷ s) = by (eqb b (byte "\n")) (before_most s)
  where
    by : (t : Bool) → before_feed s ≤ length s → cond (not t) (1 + before_feed s) 0 ≤ suc (length s)
    by true k = omega arith
    by false k = omega arith

-- what tells the first line feed from a place on
module _ (text : List ℕ) (at : ℕ) where
  pub rest_is : slice_range text at (length text) ≡ drop at text
  rest_is = ap (λ (x : ℕ). take x (drop at text)) (sym (length-drop at text)) ∙ take-length (drop at text)

  pub feed_some : (n : ℕ) → position (λ b. eqb b (byte "\n")) (slice_range text at (length text)) ≡ Some n → (before_feed (drop at text) < length (drop at text)) × (n ≡ before_feed (drop at text))
  feed_some n e = by (ltb (before_feed (drop at text)) (length (drop at text))) refl (ap (position (λ b. eqb b (byte "\n"))) (sym rest_is) ∙ e)
    where
      by : (t : Bool) → ltb (before_feed (drop at text)) (length (drop at text)) ≡ t → cond t (Some (before_feed (drop at text))) None ≡ Some n
          → (before_feed (drop at text) < length (drop at text)) × (n ≡ before_feed (drop at text))
      by true h q = (ltb-true (before_feed (drop at text)) (length (drop at text)) h, cc)
      by false h q = cc

  pub feed_none : position (λ b. eqb b (byte "\n")) (slice_range text at (length text)) ≡ None → before_feed (drop at text) ≡ length (drop at text)
  feed_none e = by (ltb (before_feed (drop at text)) (length (drop at text))) refl (ap (position (λ b. eqb b (byte "\n"))) (sym rest_is) ∙ e)
    where
      by : (t : Bool) → ltb (before_feed (drop at text)) (length (drop at text)) ≡ t → cond t (Some (before_feed (drop at text))) None ≡ None → before_feed (drop at text) ≡ length (drop at text)
      by true h q = cc
      by false h q = omega (arith, ltb-false (before_feed (drop at text)) (length (drop at text)) h, before_most (drop at text))

  pub line_short : (n : ℕ) → n ≤ length (drop at text) → length (without_return (slice_range text at (at + n))) ≤ n
  line_short n h = omega (arith, return_shorter (slice_range text at (at + n)), length-take-le (at + n - at) (drop at text) (omega arith))

-- ---- the line at a place, by where the line feed is
module _ (text : List ℕ) (at : ℕ) where
  pub line_behind : length text < at → record { end = at; next = at } ≡ line_at text at
  unfolding line_at
  line_behind h =
      let n : drop at text ≡ [] = drop_of_length-le text (omega arith) in
      let z : at + before_feed (drop at text) ≡ at = rw n (omega arith) in
      rw (z, le-ltb at (length text) (omega arith))

  pub line_last : at ≤ length text → before_feed (drop at text) ≡ length (drop at text) → record { end = length text; next = length text } ≡ line_at text at
  unfolding line_at
  line_last h e =
      let z : at + before_feed (drop at text) ≡ length text = omega (arith, length-drop at text) in
      rw (z, le-ltb (length text) (length text) (omega arith))

  pub line_fed : (n : ℕ) → before_feed (drop at text) < length (drop at text) → n ≡ before_feed (drop at text)
      → record { end = at + length (without_return (slice_range text at (at + n))); next = at + n + 1 } ≡ line_at text at
  unfolding line_at
  line_fed n h e = rw (e, lt-ltb (at + before_feed (drop at text)) (length text) (omega (arith, length-drop at text)))

-- ---- the first line of a text
first_fed : (s : List ℕ) → before_feed s < length s
    → pieces s ≡ piece (without_return (take (before_feed s) s)) (return_of (take (before_feed s) s) ++ bytes "\n") ∷ pieces (drop (suc (before_feed s)) s)
first_fed s h =
    let k = before_feed s in
    let e : s ≡ take k s ++ byte "\n" ∷ drop (suc k) s = split_at s k 0 h ∙ ap (λ (x : ℕ). take k s ++ x ∷ drop (suc k) s) (feed_at s h) in
    ap pieces e ∙ feed_is (take k s) (drop (suc k) s) (unfed_before s k (omega arith))

first_last : (s : List ℕ) → 0 < length s → length s ≤ before_feed s → pieces s ≡ piece s [] ∷ []
first_last [] h k = absurd (omega arith)
first_last (b ∷ t) h k = last_is (b ∷ t) (subst unfed (take-length (b ∷ t)) (unfed_before (b ∷ t) (length (b ∷ t)) k))

-- ---- the line at a place of a text

-- parts of a text by the text from a place on
at_part : (text : List ℕ) (at j e : ℕ) → e ≡ at + j → slice_range text at e ≡ take j (drop at text)
at_part text at j e q = let z : e - at ≡ j = omega arith in ap (λ (x : ℕ). take x (drop at text)) z

-- a line without its carriage return, and that with the line feed behind it
module _ (s : List ℕ) (h : before_feed s < length s) where
  abbrev pub bare : ℕ
  bare = length (without_return (take (before_feed s) s))

  pub bare_most : bare ≤ before_feed s
  bare_most = omega (arith, return_shorter (take (before_feed s) s), length-take-le (before_feed s) s (omega arith))

  bare_line : without_return (take (before_feed s) s) ≡ take bare s
  bare_line = return_front (take (before_feed s) s) ∙ take-take bare (before_feed s) s bare_most

  bare_end : return_of (take (before_feed s) s) ++ bytes "\n" ≡ take (suc (before_feed s) - bare) (drop bare s)
  bare_end =
      let k = before_feed s in
      let m = bare_most in
      let j = k - bare in
      let z : k ≡ bare + j = omega arith in
      let y : suc k - bare ≡ suc j = omega arith in
      let a : drop bare (take k s) ≡ take j (drop bare s) = ap (λ (x : ℕ). drop bare (take x s)) z ∙ drop-take bare j s in
      let b : get_or (drop bare s) j 0 ≡ byte "\n" = get_or-drop bare s j 0 ∙ ap (λ (x : ℕ). get_or s x 0) (sym z) ∙ feed_at s h in
      ap (λ (x : List ℕ). x ++ bytes "\n") a ∙ sym (rw (y, take-suc (drop bare s) j 0 (omega (arith, length-drop bare s)), b))

module _ (text : List ℕ) (at : ℕ) (h : at < length text) where
  rest_long : length (drop at text) ≡ length text - at
  rest_long = length-drop at text

  last_spans : length text ≤ at + before_feed (drop at text) → Spans text at (record { end = at + before_feed (drop at text); next = at + before_feed (drop at text) })
  last_spans k =
      let feed = at + before_feed (drop at text) in
      let m = before_most (drop at text) in
      let a : slice_range text at feed ≡ drop at text = at_part text at (length (drop at text)) feed (omega (arith, rest_long)) ∙ take-length (drop at text) in
      let b : slice_range text feed feed ≡ [] = at_part text feed 0 feed (omega arith) in
      record {
        from = omega arith;
        up_to = omega arith;
        onward = omega (arith, rest_long);
        within = omega (arith, rest_long);
        cut = first_last (drop at text) (omega (arith, rest_long)) (omega (arith, rest_long)) ∙ rw (a, b, drop_of_length-le text k) (ap (λ (x : List Piece). piece (drop at text) [] ∷ x) (sym (last_is [] refl)));
      }

  fed_spans : (feed : ℕ) → feed ≡ at + before_feed (drop at text) → feed < length text
      → Spans text at (record { end = at + length (without_return (slice_range text at feed)); next = feed + 1 })
  fed_spans feed e k =
      let s = drop at text in
      let n = before_feed s in
      let l : n < length s = omega (arith, rest_long) in
      let m = bare_most s l in
      let p : slice_range text at feed ≡ take n s = at_part text at n feed e in
      let end = at + length (without_return (take n s)) in
      let a : slice_range text at end ≡ without_return (take n s) = at_part text at (length (without_return (take n s))) end refl ∙ sym (bare_line s l) in
      let b : slice_range text end (feed + 1) ≡ return_of (take n s) ++ bytes "\n" =
      at_part text end (suc n - length (without_return (take n s))) (feed + 1) (omega arith)
      ∙ ap (take (suc n - length (without_return (take n s)))) (sym (drop-drop (length (without_return (take n s))) at text)) ∙ sym (bare_end s l) in
      let c : drop (suc n) s ≡ drop (feed + 1) text = drop-drop (suc n) at text ∙ (let z : at + suc n ≡ feed + 1 = omega arith in ap (λ (x : ℕ). drop x text) z) in
      rw p record {
        from = omega arith;
        up_to = omega arith;
        onward = omega arith;
        within = omega arith;
        cut = first_fed s l ∙ rw (a, b, c);
      }

  pub spans : Spans text at (line_at text at)
  unfolding line_at
  spans = by (ltb (at + before_feed (drop at text)) (length text)) refl
    where
      by : (t : Bool) → ltb (at + before_feed (drop at text)) (length text) ≡ t
          → Spans text at (cond t (record { end = at + length (without_return (slice_range text at (at + before_feed (drop at text)))); next = at + before_feed (drop at text) + 1 })
          (record { end = at + before_feed (drop at text); next = at + before_feed (drop at text) }))
      by true e = fed_spans (at + before_feed (drop at text)) refl (ltb-true (at + before_feed (drop at text)) (length text) e)
      by false e = last_spans (ltb-false (at + before_feed (drop at text)) (length text) e)

  -- and so of the rules' lines
  pub spans_line : lines (drop at text) ≡ slice_range text at (line_at text at).end ∷ lines (drop (line_at text at).next text)
  spans_line = sym (lines_are (drop at text)) ∙ ap (map line_of) spans.cut ∙ ap (λ (x : List (List ℕ)). slice_range text at (line_at text at).end ∷ x) (lines_are (drop (line_at text at).next text))
