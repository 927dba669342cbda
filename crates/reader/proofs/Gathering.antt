-- The loops over the items: what is left to read makes of what is stored so far what the whole makes of what was there at first.
-- Assumes nothing.
use mathlib.Core.Path.{◌≡◌, refl, sym, ap, ap₂, ◌∙◌}
use mathlib.Core.Bool.{Bool, true, false, cond}
use mathlib.Core.List.{List, [], ◌∷◌}
use Prim.Native.Nat.{ℕ, suc, ◌+◌, ◌*◌, ◌≤◌, ◌<◌}
use Rattle.std.specs.Prelude.{Option, Some, None, is_some, Ok, Err}
use Rattle.std.specs.Option.{option_or}
use native.Mathlib.Omega.{arith}
use native.Mathlib.Numerals.{add-one}
use lib.Dec.{eqb, ltb}
use lib.IntN.{ℤ}
use lib.ListN.{length, set}
use Rattle.grammar.specs.Grammar.{Item}
use Rattle.grammar.specs.Work.{item_work, items_work, item_depth, items_depth}
use Rattle.grammar.specs.Working.{Step, skip, give, stop, step_of, entries}
use Rattle.grammar.proofs.Place.{Placed, wrong, found, map_p}
use Rattle.grammar.proofs.Trees.{item_t, items_t, items_none}
use Rattle.rules.specs.Meaning.{Entry, word_is, setting_is, words, settings}
use Rattle.rules.specs.Named.{refusal_of}
use Rattle.rules.specs.declared.Value.{Value}
use Rattle.rules.specs.declared.Refusal.{Refusal}
use Rattle.reader.specs.Pass.{guarded}
use Rattle.reader.specs.Places.{spelt_to}
use Rattle.reader.specs.Levels.{item_at}
use Rattle.reader.specs.Reading.{Spaces, spaces, zeros, Reading, whole as so_much, unread_of, stop_of, counted, Left, left}
use Rattle.reader.specs.Gather.{checked, ended, left_from, left_stopped, left_deep, left_unless, left_as, tidied}
use Rattle.reader.specs.declared.items.Item.TheVariants.{End}
use Rattle.reader.specs.declared.answer.Unread.{Unread}
use Rattle.reader.specs.declared.answer.Unread.TheVariants.{Refused, Skipped, Deep, Wrong as NoForm}
use Rattle.reader.proofs.Clash.{clash}
use Rattle.reader.proofs.Evaluating.{ends_is, not_is}
use Rattle.reader.proofs.Levels.{wide_fits, wide_over}
use Rattle.reader.proofs.Passing.{Past, Taken, Deeper, at_wrong, past_end, past_on, taken_weight, items_on, items_broken}

-- ---- the form alone

checked_on : (j : Item) (m : Placed (List Item)) → checked m ≡ checked (map_p (λ l. j ∷ l) m)
checked_on j (wrong p) = refl
checked_on j (found e p) = refl

-- the form of the items before i is right
pub record Checking (s : List ℕ) (at i : ℕ) : Type 0 where
  pub within : i ≤ length s
  pub same : checked (items_t s i) ≡ checked (items_t s at)

module _ {s : List ℕ} {at i : ℕ} (q : Checking s at i) where
  module _ (l : i < length s) where
    past_item : {p : ℕ} (e : Ok p ≡ spelt_to (item_t s i)) → Past s i (ends_is (item_t s i) e).thing p
    past_item e = record { inside = l; is = (ends_is (item_t s i) e).is }

    pub check_on : {p : ℕ} → Ok p ≡ spelt_to (item_t s i) → i < p
    check_on e = (past_on (past_item e)).0

    pub check_more : {p : ℕ} → Ok p ≡ spelt_to (item_t s i) → Checking s at p
    check_more {p} e = record {
      within = (past_on (past_item e)).1;
      same = checked_on (ends_is (item_t s i) e).thing (items_t s p) ∙ ap (λ (m : Placed (List Item)). checked m) (sym (items_on (past_item e))) ∙ q.same;
    }

    pub check_wrong : {p : ℕ} → Err p ≡ spelt_to (item_t s i) → Err p ≡ checked (items_t s at)
    check_wrong e = ap (λ (m : Placed (List Item)). checked m) (sym (items_broken s i l (not_is (item_t s i) e))) ∙ q.same

  pub check_end : length s ≤ i → Ok tt ≡ checked (items_t s at)
  check_end l = ap (λ (m : Placed (List Item)). checked m) (sym (items_none s i l)) ∙ q.same

-- what stops a reading by a number leaves the spaces as they are
untidied_in : (c : Bool) (why : Refusal) (sp : Spaces) → tidied (Err (cond c Skipped (Refused why))) sp ≡ left (Err (cond c Skipped (Refused why))) sp
untidied_in true why sp = refl
untidied_in false why sp = refl

pub untidied : (n : ℕ) (sp : Spaces) → tidied (Err (unread_of n)) sp ≡ left (Err (unread_of n)) sp
untidied n sp = untidied_in (eqb n 100) (refusal_of n) sp

module _ (t : List ℤ) where
  -- ---- an item more

  deep_on : (j : Item) (m : Placed (List Item)) → left_deep t m ≡ left_deep t (map_p (λ l. j ∷ l) m)
  deep_on j (wrong p) = refl
  deep_on j (found is p) = refl

  module _ (j : Item) (f : ltb 24 (item_depth j) ≡ false) where
    stopped_on : (why : Unread) (sp : Spaces) (m : Placed (List Item)) → left_stopped t why sp m ≡ left_stopped t why sp (map_p (λ l. j ∷ l) m)
    stopped_on why sp (wrong p) = refl
    stopped_on why sp (found is p) = rw (wide_fits 24 (item_depth j) (items_depth is) f)

    stop_here : (w n k number : ℕ) (sp : Spaces) (m : Placed (List Item)) → step_of (guarded t) j ≡ stop number → left_stopped t (unread_of number) sp m ≡ left_from t w n k sp (map_p (λ l. j ∷ l) m)
    stop_here w n k number sp (wrong p) g = refl
    stop_here w n k number sp (found is p) g =
        rw (wide_fits 24 (item_depth j) (items_depth is) f, g) (ap (λ (x : Left). cond (ltb 24 (items_depth is)) (left (Err Deep) zeros) x) (untidied number sp))

    from_skip : (w n k : ℕ) (sp : Spaces) (m : Placed (List Item)) → step_of (guarded t) j ≡ skip → item_work j ≡ 0 → left_from t w n k sp m ≡ left_from t w n k sp (map_p (λ l. j ∷ l) m)
    from_skip w n k sp (wrong p) g z = refl
    from_skip w n k sp (found is p) g z =
        let e : k + items_work is ≡ k + (item_work j + items_work is) = omega arith in
        rw (wide_fits 24 (item_depth j) (items_depth is) f, g, e)

    from_word : (w n k y b : ℕ) (v : ℤ) (sp : Spaces) (m : Placed (List Item)) → step_of (guarded t) j ≡ give (word_is b v) → item_work j ≡ y →
        left_from t (w + 1) n (k + y) (spaces (set sp.letters w b) (set sp.values w v) sp.numbers sp.amounts) m ≡ left_from t w n k sp (map_p (λ l. j ∷ l) m)
    from_word w n k y b v sp (wrong p) g z = refl
    from_word w n k y b v sp (found is p) g z =
        let e = entries (guarded t) is in
        let h : w + 1 + length (words e) ≡ w + suc (length (words e)) = omega arith in
        let i : k + y + items_work is ≡ k + (item_work j + items_work is) = omega arith in
        rw (wide_fits 24 (item_depth j) (items_depth is) f, g)
        (ap (λ (x : Left). cond (ltb 24 (items_depth is)) (left (Err Deep) zeros) x)
        (ap₂ left (ap₂ (λ (x y : ℕ). counted (stop_of e) x (n + length (settings e)) y) h i) (rw add-one)))

    from_setting : (w n k y b : ℕ) (v : ℤ) (sp : Spaces) (m : Placed (List Item)) → step_of (guarded t) j ≡ give (setting_is b v) → item_work j ≡ y →
        left_from t w (n + 1) (k + y) (spaces sp.letters sp.values (set sp.numbers n b) (set sp.amounts n v)) m ≡ left_from t w n k sp (map_p (λ l. j ∷ l) m)
    from_setting w n k y b v sp (wrong p) g z = refl
    from_setting w n k y b v sp (found is p) g z =
        let e = entries (guarded t) is in
        let h : n + 1 + length (settings e) ≡ n + suc (length (settings e)) = omega arith in
        let i : k + y + items_work is ≡ k + (item_work j + items_work is) = omega arith in
        rw (wide_fits 24 (item_depth j) (items_depth is) f, g)
        (ap (λ (x : Left). cond (ltb 24 (items_depth is)) (left (Err Deep) zeros) x)
        (ap₂ left (ap₂ (λ (x y : ℕ). counted (stop_of e) (w + length (words e)) x y) h i) (rw add-one)))

  module _ (j : Item) (o : ltb 24 (item_depth j) ≡ true) where
    over_from : (w n k : ℕ) (sp : Spaces) (m : Placed (List Item)) → left_deep t m ≡ left_from t w n k sp (map_p (λ l. j ∷ l) m)
    over_from w n k sp (wrong p) = refl
    over_from w n k sp (found is p) = rw (wide_over 24 (item_depth j) (items_depth is) o)

    over_stopped : (why : Unread) (sp : Spaces) (m : Placed (List Item)) → left_deep t m ≡ left_stopped t why sp (map_p (λ l. j ∷ l) m)
    over_stopped why sp (wrong p) = refl
    over_stopped why sp (found is p) = rw (wide_over 24 (item_depth j) (items_depth is) o)

-- ---- the loop that stores

not_yet : (o : Option Unread) → is_some o ≡ false → o ≡ None
not_yet None e = refl
not_yet (Some why) e = clash (cc)

-- the items before i are read: w words and n settings of them are stored, k work was done, and those from i on leave what the whole does
pub record Gathered (t : List ℤ) (s : List ℕ) (whole : Left) (sp : Spaces) (w n k i : ℕ) (deep : Bool) (stopped : Option Unread) : Type 0 where
  pub within : i ≤ length s
  pub few : 2 * w + 4 * n ≤ i
  pub most : k ≤ i
  pub same : left_as t deep stopped w n k sp (items_t s i) ≡ whole

module _ {t : List ℤ} {s : List ℕ} {whole : Left} {sp : Spaces} {w n k i : ℕ} {deep : Bool} {stopped : Option Unread} (q : Gathered t s whole sp w n k i deep stopped) where
  -- past an item
  on : {j : Item} {p : ℕ} → Past s i j p → left_as t deep stopped w n k sp (map_p (λ l. j ∷ l) (items_t s p)) ≡ whole
  on z = ap (λ (m : Placed (List Item)). left_as t deep stopped w n k sp m) (sym (items_on z)) ∙ q.same

  module _ {b : ℕ} {v : Value} {y p : ℕ} (z : Taken t s i (give (word_is b v.0)) y p) where
    pub room_for_word : length s ≤ 256 → w < 128
    room_for_word l = omega (arith, q.few, taken_weight z, past_on z.past)

    pub gather_word : {next : Spaces} → next ≡ spaces (set sp.letters w b) (set sp.values w v.0) sp.numbers sp.amounts → is_some stopped ≡ false →
        Gathered t s whole next (w + 1) n (k + y) p deep stopped
    gather_word {next} es e = record {
      within = (past_on z.past).1;
      few = omega (arith, q.few, taken_weight z);
      most = omega (arith, q.most, taken_weight z);
      same =
          ap (λ (x : Spaces). left_as t deep stopped (w + 1) n (k + y) x (items_t s p)) es
          ∙ rw (not_yet stopped e) (ap₂ (λ (x u : Left). cond deep x u) (deep_on t z.item (items_t s p)) (from_word t z.item z.fits w n k y b v.0 sp (items_t s p) z.gives z.works))
          ∙ on z.past;
    }

  module _ {b : ℕ} {v : Value} {y p : ℕ} (z : Taken t s i (give (setting_is b v.0)) y p) where
    pub room_for_setting : length s ≤ 256 → n < 64
    room_for_setting l = omega (arith, q.few, taken_weight z, past_on z.past)

    pub gather_setting : {next : Spaces} → next ≡ spaces sp.letters sp.values (set sp.numbers n b) (set sp.amounts n v.0) → is_some stopped ≡ false →
        Gathered t s whole next w (n + 1) (k + y) p deep stopped
    gather_setting {next} es e = record {
      within = (past_on z.past).1;
      few = omega (arith, q.few, taken_weight z);
      most = omega (arith, q.most, taken_weight z);
      same =
          ap (λ (x : Spaces). left_as t deep stopped w (n + 1) (k + y) x (items_t s p)) es
          ∙ rw (not_yet stopped e) (ap₂ (λ (x u : Left). cond deep x u) (deep_on t z.item (items_t s p)) (from_setting t z.item z.fits w n k y b v.0 sp (items_t s p) z.gives z.works))
          ∙ on z.past;
    }

  -- the work so far can be added to
  pub room_for_work : {st : Step Entry} {y p : ℕ} → Taken t s i st y p → k + y ≤ length s
  room_for_work z = omega (arith, q.most, taken_weight z, past_on z.past)

  -- past an item of right form that is not stored, since one before it was refused
  pub gather_past : {st : Step Entry} {y p : ℕ} → Taken t s i st y p → is_some stopped ≡ true → Gathered t s whole sp w n k p deep stopped
  gather_past {st} {y} {p} z e = record {
    within = (past_on z.past).1;
    few = omega (arith, q.few, past_on z.past);
    most = omega (arith, q.most, past_on z.past);
    same = ap₂ (λ (x u : Left). cond deep x u) (deep_on t z.item (items_t s p)) (go stopped e) ∙ on z.past;
  }
    where
      go : (o : Option Unread) → is_some o ≡ true → left_unless t o w n k sp (items_t s p) ≡ left_unless t o w n k sp (map_p (λ l. z.item ∷ l) (items_t s p))
      go None h = clash (cc)
      go (Some why) h = stopped_on t z.item z.fits why sp (items_t s p)

  -- past a comment
  pub gather_comment : {p : ℕ} → Taken t s i skip 0 p → Gathered t s whole sp w n k p deep stopped
  gather_comment {p} z = record {
    within = (past_on z.past).1;
    few = omega (arith, q.few, past_on z.past);
    most = omega (arith, q.most, past_on z.past);
    same =
        ap₂ (λ (x u : Left). cond deep x u) (deep_on t z.item (items_t s p))
        (go stopped)
        ∙ on z.past;
  }
    where
      go : (o : Option Unread) → left_unless t o w n k sp (items_t s p) ≡ left_unless t o w n k sp (map_p (λ l. z.item ∷ l) (items_t s p))
      go None = from_skip t z.item z.fits w n k sp (items_t s p) z.gives z.works
      go (Some why) = stopped_on t z.item z.fits why sp (items_t s p)

  -- past one that is refused: the first that is counts
  pub gather_stop : {m y p : ℕ} {first : Option Unread} → Taken t s i (stop m) y p → first ≡ option_or stopped (Some (unread_of m)) → Gathered t s whole sp w n k p deep first
  gather_stop {m} {y} {p} {first} z e = record {
    within = (past_on z.past).1;
    few = omega (arith, q.few, past_on z.past);
    most = omega (arith, q.most, past_on z.past);
    same = ap₂ (λ (x u : Left). cond deep x u) (deep_on t z.item (items_t s p)) (rw e (go stopped)) ∙ on z.past;
  }
    where
      go : (o : Option Unread) → left_unless t (option_or o (Some (unread_of m))) w n k sp (items_t s p) ≡ left_unless t o w n k sp (map_p (λ l. z.item ∷ l) (items_t s p))
      go None = stop_here t z.item z.fits w n k m sp (items_t s p) z.gives
      go (Some why) = stopped_on t z.item z.fits why sp (items_t s p)

  -- the same counts by another name
  pub recounted : {x y : ℕ} → x ≡ w → y ≡ n → Gathered t s whole sp x y k i deep stopped
  recounted e d = rw (e, d) q

  -- past one that nests too deep
  pub gather_deep : {p : ℕ} → Deeper s i p → Gathered t s whole sp w n k p true stopped
  gather_deep {p} z = record {
    within = (past_on z.past).1;
    few = omega (arith, q.few, past_on z.past);
    most = omega (arith, q.most, past_on z.past);
    same = go deep stopped ∙ on z.past;
  }
    where
      go : (d : Bool) (c : Option Unread) → left_deep t (items_t s p) ≡ left_as t d c w n k sp (map_p (λ l. z.item ∷ l) (items_t s p))
      go true c = deep_on t z.item (items_t s p)
      go false (Some why) = over_stopped t z.item z.over why sp (items_t s p)
      go false None = over_from t z.item z.over w n k sp (items_t s p)

  -- the ways out
  pub gather_wrong : {p : ℕ} → Err p ≡ item_at t s i → tidied (Err (NoForm p)) sp ≡ whole
  gather_wrong {p} e =
      let z = at_wrong t s i e in
      go deep stopped ∙ ap (λ (m : Placed (List Item)). left_as t deep stopped w n k sp m) (sym (items_broken s i z.0 z.1)) ∙ q.same
    where
      go : (d : Bool) (c : Option Unread) → left (Err (NoForm p)) zeros ≡ left_as t d c w n k sp (wrong p)
      go true c = refl
      go false (Some why) = refl
      go false None = refl

  pub gather_end : Ok End ≡ item_at t s i → {r : Reading} → r ≡ ended deep stopped w n k → tidied r sp ≡ whole
  gather_end e {r} d =
      ap (λ (x : Reading). tidied x sp) d
      ∙ go deep stopped
      ∙ ap (λ (m : Placed (List Item)). left_as t deep stopped w n k sp m) (sym (items_none s i (past_end t s i e)))
      ∙ q.same
    where
      go : (d : Bool) (c : Option Unread) → tidied (ended d c w n k) sp ≡ left_as t d c w n k sp (found [] (length s))
      go true c = refl
      go false (Some why) = refl
      go false None =
          let x : w ≡ w + 0 = omega arith in
          let y : n ≡ n + 0 = omega arith in
          let z : k ≡ k + 0 = omega arith in
          ap (λ (u : ℕ). left (so_much u n k) sp) x ∙ ap (λ (u : ℕ). left (so_much (w + 0) u k) sp) y ∙ ap (λ (u : ℕ). left (so_much (w + 0) (n + 0) u) sp) z
