-- One item passed: from the code's answer back to its tree, the bytes it took, and what it adds to what is read.
-- Assumes nothing.
use mathlib.Core.Path.{◌≡◌, refl, sym, ap, ◌∙◌}
use mathlib.Core.Bool.{Bool, true, false, cond}
use mathlib.Core.List.{List, ◌∷◌}
use Prim.Native.Nat.{ℕ, ◌+◌, ◌≤◌, ◌<◌}
use Rattle.std.specs.Prelude.{Option, Some, None, Result, Ok, Err}
use native.Mathlib.Omega.{arith}
use borrow.Author.Tests.{ltb-true, ltb-false}
use lib.Dec.{ltb}
use lib.IntN.{ℤ}
use lib.ListN.{length, length-append}
use Rattle.grammar.specs.Bytes.{byte}
use Rattle.grammar.specs.Grammar.{Item, word, setting, comment, ItemOk, write_item, write_value}
use Rattle.grammar.specs.Work.{item_work, item_depth}
use Rattle.grammar.specs.Working.{Step, skip, give, stop, step_of, value}
use Rattle.grammar.proofs.LineBack.{item_writes}
use Rattle.grammar.proofs.Lengths.{value_bytes}
use Rattle.grammar.proofs.Bare.{value_work_holds}
use Rattle.grammar.proofs.Place.{Placed, wrong, found, bind_p, map_p}
use Rattle.grammar.proofs.Trees.{item_t, items_t, item_ends, item_right, items_tree}
use Rattle.rules.specs.Meaning.{Worked, Entry, word_is, setting_is, word_of, setting_of, setting_at, parameter_of}
use Rattle.rules.specs.declared.Value.{Value}
use Rattle.rules.specs.Named.{refusal_number, refusal_of}
use Rattle.rules.specs.declared.Refusal.{Refusal}
use Rattle.rules.specs.declared.Refusal.TheVariants.{Disorder, LongLine, WrongForm, FineNumber, OutOfRange, ZeroDivisor, NoParameter, NotServed, Doubled, MissingOrIdle, WrongWord, WrongMode, TooFar, BadArc, NoRoom, TooDeep}
use Rattle.reader.specs.Pass.{guarded}
use Rattle.reader.specs.Reading.{unread_of}
use Rattle.reader.specs.Levels.{item_by, of_item, item_at}
use Rattle.reader.specs.declared.answer.Unread.TheVariants.{Refused}
use Rattle.reader.specs.declared.items.Item.{Item as Answer}
use Rattle.reader.specs.declared.items.Item.TheVariants.{Word, Setting, Comment, Stop, Deep, End}
use Rattle.rules.proofs.Answers.{refusal_of_holds}
use Rattle.reader.proofs.Clash.{clash}
use Rattle.reader.proofs.Evaluating.{ok_one}

-- ---- from the code's answer back to the tree

-- the item at i, and the place p past it
pub record Past (s : List ℕ) (i : ℕ) (j : Item) (p : ℕ) : Type 0 where
  pub inside : i < length s
  pub is : item_t s i ≡ found j p

-- one that nests no deeper than the limit: what it gives, and its work
pub record Taken (t : List ℤ) (s : List ℕ) (i : ℕ) (st : Step Entry) (w p : ℕ) : Type 0 where
  pub item : Item
  pub past : Past s i item p
  pub fits : ltb 24 (item_depth item) ≡ false
  pub gives : step_of (guarded t) item ≡ st
  pub works : item_work item ≡ w

-- one that nests deeper
pub record Deeper (s : List ℕ) (i p : ℕ) : Type 0 where
  pub item : Item
  pub past : Past s i item p
  pub over : ltb 24 (item_depth item) ≡ true

-- an item that gives nothing is a comment, which is no work
word_gives : (b : ℕ) (a : Worked) {X : Type 0} → word_of b a ≡ skip → X
word_gives b (Ok v) e = clash (cc)
word_gives b (Err n) e = clash (cc)

setting_gives : (a b : Worked) {X : Type 0} → setting_of a b ≡ skip → X
setting_gives (Err n) b e = clash (cc)
setting_gives (Ok v) b {X} e = go (parameter_of v.0) b e
  where
    go : (p : Option ℕ) (b : Worked) → setting_at p b ≡ skip → X
    go None b h = clash (cc)
    go (Some n) (Ok w) h = clash (cc)
    go (Some n) (Err k) h = clash (cc)

idle : (t : List ℤ) (j : Item) → step_of (guarded t) j ≡ skip → item_work j ≡ 0
idle t (word b v) e = word_gives b (value (guarded t) v) e
idle t (setting v w) e = setting_gives (value (guarded t) v) (value (guarded t) w) e
idle t (comment bs) e = refl

-- a refusal has no skip's number
pub refused_is : (why : Refusal) → Refused why ≡ unread_of (refusal_number why)
refused_is Disorder = refl
refused_is LongLine = refl
refused_is WrongForm = refl
refused_is FineNumber = refl
refused_is OutOfRange = refl
refused_is ZeroDivisor = refl
refused_is NoParameter = refl
refused_is NotServed = refl
refused_is Doubled = refl
refused_is MissingOrIdle = refl
refused_is WrongWord = refl
refused_is WrongMode = refl
refused_is TooFar = refl
refused_is BadArc = refl
refused_is NoRoom = refl
refused_is TooDeep = refl

-- so an item that stops the reading is refused
stops_so : (why : Refusal) {n : ℕ} → refusal_number why ≡ n → Refused (refusal_of n) ≡ unread_of n
stops_so why e = rw (← e) (ap Refused (sym (refusal_of_holds why)) ∙ refused_is why)

word_stops : (b : ℕ) (a : Worked) {n : ℕ} → word_of b a ≡ stop n → Refused (refusal_of n) ≡ unread_of n
word_stops b (Ok v) e = clash (cc)
word_stops b (Err why) e = stops_so why (cc)

setting_stops : (a b : Worked) {n : ℕ} → setting_of a b ≡ stop n → Refused (refusal_of n) ≡ unread_of n
setting_stops (Err why) b e = stops_so why (cc)
setting_stops (Ok v) b {n} e = go (parameter_of v.0) b e
  where
    go : (p : Option ℕ) (b : Worked) → setting_at p b ≡ stop n → Refused (refusal_of n) ≡ unread_of n
    go None b h = stops_so NoParameter (cc)
    go (Some k) (Ok w) h = clash (cc)
    go (Some k) (Err why) h = stops_so why (cc)

item_stops : (t : List ℤ) (j : Item) {n : ℕ} → step_of (guarded t) j ≡ stop n → Refused (refusal_of n) ≡ unread_of n
item_stops t (word b v) e = word_stops b (value (guarded t) v) e
item_stops t (setting v w) e = setting_stops (value (guarded t) v) (value (guarded t) w) e
item_stops t (comment bs) e = clash (cc)

-- one that stops it, and why
pub record Stops (t : List ℤ) (s : List ℕ) (i : ℕ) (why : Refusal) (p : ℕ) : Type 0 where
  pub number : ℕ
  pub work : ℕ
  pub taken : Taken t s i (stop number) work p
  pub named : Refused why ≡ unread_of number

module _ (t : List ℤ) (s : List ℕ) (i : ℕ) where
  -- an answer other than the end is given inside the line
  inside_by : {r : Result Answer ℕ} → r ≡ item_at t s i → (r ≡ Ok End → ⊥) → (i < length s) × (r ≡ of_item t 24 (item_t s i))
  unfolding item_at
  inside_by {r} e h = go (ltb i (length s)) refl e
    where
      go : (c : Bool) → ltb i (length s) ≡ c → r ≡ cond c (of_item t 24 (item_t s i)) (Ok End) → (i < length s) × (r ≡ of_item t 24 (item_t s i))
      go true x y = (ltb-true i (length s) x, y)
      go false x y = absurd (h y)

  module _ (z : i < length s) where
    pub word_is_holds : (m : Placed Item) → item_t s i ≡ m → {b : ℕ} {v : Value} {w p : ℕ} → Ok (Word b v w p) ≡ of_item t 24 m → Taken t s i (give (word_is b v.0)) w p
    word_is_holds (wrong q) h e = clash (cc)
    word_is_holds (found j q) h {b} {v} {w} {p} e = go (ltb 24 (item_depth j)) refl (step_of (guarded t) j) refl (ok_one e)
      where
        go : (c : Bool) → ltb 24 (item_depth j) ≡ c → (x : Step Entry) → step_of (guarded t) j ≡ x → Word b v w p ≡ cond c (Deep q) (item_by x (item_work j) q) → Taken t s i (give (word_is b v.0)) w p
        go true f x g k = clash (cc)
        go false f skip g k = clash (cc)
        go false f (give (word_is c u)) g k =
            let a : c ≡ b = cc in
            let d : u ≡ v.0 = cc in
            let o : q ≡ p = cc in
            record { item = j; past = record { inside = z; is = h ∙ ap (found j) o }; fits = f; gives = g ∙ rw (a, d); works = cc }
        go false f (give (setting_is c u)) g k = clash (cc)
        go false f (stop n) g k = clash (cc)

    pub setting_is_holds : (m : Placed Item) → item_t s i ≡ m → {b : ℕ} {v : Value} {w p : ℕ} → Ok (Setting b v w p) ≡ of_item t 24 m → Taken t s i (give (setting_is b v.0)) w p
    setting_is_holds (wrong q) h e = clash (cc)
    setting_is_holds (found j q) h {b} {v} {w} {p} e = go (ltb 24 (item_depth j)) refl (step_of (guarded t) j) refl (ok_one e)
      where
        go : (c : Bool) → ltb 24 (item_depth j) ≡ c → (x : Step Entry) → step_of (guarded t) j ≡ x → Setting b v w p ≡ cond c (Deep q) (item_by x (item_work j) q) → Taken t s i (give (setting_is b v.0)) w p
        go true f x g k = clash (cc)
        go false f skip g k = clash (cc)
        go false f (give (word_is c u)) g k = clash (cc)
        go false f (give (setting_is c u)) g k =
            let a : c ≡ b = cc in
            let d : u ≡ v.0 = cc in
            let o : q ≡ p = cc in
            record { item = j; past = record { inside = z; is = h ∙ ap (found j) o }; fits = f; gives = g ∙ rw (a, d); works = cc }
        go false f (stop n) g k = clash (cc)

    pub comment_is : (m : Placed Item) → item_t s i ≡ m → {p : ℕ} → Ok (Comment p) ≡ of_item t 24 m → Taken t s i skip 0 p
    comment_is (wrong q) h e = clash (cc)
    comment_is (found j q) h {p} e = go (ltb 24 (item_depth j)) refl (step_of (guarded t) j) refl (ok_one e)
      where
        go : (c : Bool) → ltb 24 (item_depth j) ≡ c → (x : Step Entry) → step_of (guarded t) j ≡ x → Comment p ≡ cond c (Deep q) (item_by x (item_work j) q) → Taken t s i skip 0 p
        go true f x g k = clash (cc)
        go false f skip g k = let o : q ≡ p = cc in record { item = j; past = record { inside = z; is = h ∙ ap (found j) o }; fits = f; gives = g; works = idle t j g }
        go false f (give (word_is c u)) g k = clash (cc)
        go false f (give (setting_is c u)) g k = clash (cc)
        go false f (stop n) g k = clash (cc)

    pub stop_is : (m : Placed Item) → item_t s i ≡ m → {why : Refusal} {p : ℕ} → Ok (Stop why p) ≡ of_item t 24 m → Stops t s i why p
    stop_is (wrong q) h e = clash (cc)
    stop_is (found j q) h {why} {p} e = go (ltb 24 (item_depth j)) refl (step_of (guarded t) j) refl (ok_one e)
      where
        go : (c : Bool) → ltb 24 (item_depth j) ≡ c → (x : Step Entry) → step_of (guarded t) j ≡ x → Stop why p ≡ cond c (Deep q) (item_by x (item_work j) q) → Stops t s i why p
        go true f x g k = clash (cc)
        go false f skip g k = clash (cc)
        go false f (give (word_is c u)) g k = clash (cc)
        go false f (give (setting_is c u)) g k = clash (cc)
        go false f (stop y) g k =
            let a : why ≡ refusal_of y = cc in
            let o : q ≡ p = cc in
            record { number = y; work = item_work j; taken = record { item = j; past = record { inside = z; is = h ∙ ap (found j) o }; fits = f; gives = g; works = refl }; named = ap Refused a ∙ item_stops t j g }

    -- what an answer of another kind cannot be
    step_not_deep : (x : Step Entry) (w q : ℕ) {p : ℕ} {X : Type 0} → Deep p ≡ item_by x w q → X
    step_not_deep skip w q e = clash (cc)
    step_not_deep (give (word_is c u)) w q e = clash (cc)
    step_not_deep (give (setting_is c u)) w q e = clash (cc)
    step_not_deep (stop n) w q e = clash (cc)

    pub deep_is : (m : Placed Item) → item_t s i ≡ m → {p : ℕ} → Ok (Deep p) ≡ of_item t 24 m → Deeper s i p
    deep_is (wrong q) h e = clash (cc)
    deep_is (found j q) h {p} e = go (ltb 24 (item_depth j)) refl (ok_one e)
      where
        go : (c : Bool) → ltb 24 (item_depth j) ≡ c → Deep p ≡ cond c (Deep q) (item_by (step_of (guarded t) j) (item_work j) q) → Deeper s i p
        go true f k = let o : q ≡ p = cc in record { item = j; past = record { inside = z; is = h ∙ ap (found j) o }; over = f }
        go false f k = step_not_deep (step_of (guarded t) j) (item_work j) q k

  step_not_end : (x : Step Entry) (w q : ℕ) {X : Type 0} → End ≡ item_by x w q → X
  step_not_end skip w q e = clash (cc)
  step_not_end (give (word_is c u)) w q e = clash (cc)
  step_not_end (give (setting_is c u)) w q e = clash (cc)
  step_not_end (stop n) w q e = clash (cc)

  wrong_is : (m : Placed Item) {p : ℕ} → Err p ≡ of_item t 24 m → m ≡ wrong p
  wrong_is (wrong q) {p} e = let k : q ≡ p = cc in rw k
  wrong_is (found j q) e = clash (cc)

  end_is : (m : Placed Item) {X : Type 0} → Ok End ≡ of_item t 24 m → X
  end_is (wrong q) e = clash (cc)
  end_is (found j q) {X} e = go (ltb 24 (item_depth j)) (ok_one e)
    where
      go : (c : Bool) → End ≡ cond c (Deep q) (item_by (step_of (guarded t) j) (item_work j) q) → X
      go true k = clash (cc)
      go false k = step_not_end (step_of (guarded t) j) (item_work j) q k

  pub at_word : {b : ℕ} {v : Value} {w p : ℕ} → Ok (Word b v w p) ≡ item_at t s i → Taken t s i (give (word_is b v.0)) w p
  at_word e = let k = inside_by e (λ z. clash (cc)) in word_is_holds k.0 (item_t s i) refl k.1

  pub at_setting : {n : ℕ} {v : Value} {w p : ℕ} → Ok (Setting n v w p) ≡ item_at t s i → Taken t s i (give (setting_is n v.0)) w p
  at_setting e = let k = inside_by e (λ z. clash (cc)) in setting_is_holds k.0 (item_t s i) refl k.1

  pub at_comment : {p : ℕ} → Ok (Comment p) ≡ item_at t s i → Taken t s i skip 0 p
  at_comment e = let k = inside_by e (λ z. clash (cc)) in comment_is k.0 (item_t s i) refl k.1

  pub at_stop : {why : Refusal} {p : ℕ} → Ok (Stop why p) ≡ item_at t s i → Stops t s i why p
  at_stop e = let k = inside_by e (λ z. clash (cc)) in stop_is k.0 (item_t s i) refl k.1

  pub at_deep : {p : ℕ} → Ok (Deep p) ≡ item_at t s i → Deeper s i p
  at_deep e = let k = inside_by e (λ z. clash (cc)) in deep_is k.0 (item_t s i) refl k.1

  pub at_wrong : {p : ℕ} → Err p ≡ item_at t s i → (i < length s) × (item_t s i ≡ wrong p)
  at_wrong e = let k = inside_by e (λ z. clash (cc)) in (k.0, wrong_is (item_t s i) k.1)

  pub past_end : Ok End ≡ item_at t s i → length s ≤ i
  unfolding item_at
  past_end e = go (ltb i (length s)) refl e
    where
      go : (c : Bool) → ltb i (length s) ≡ c → Ok End ≡ cond c (of_item t 24 (item_t s i)) (Ok End) → length s ≤ i
      go true x y = end_is (item_t s i) y
      go false x y = ltb-false i (length s) x

-- ---- the bytes an item takes

-- a word takes two at least, a setting four
abbrev pub weight : Step Entry → ℕ
weight skip = 0
weight (give (word_is b v)) = 2
weight (give (setting_is n v)) = 4
weight (stop n) = 0

word_weight : (b : ℕ) (a : Worked) → weight (word_of b a) ≤ 2
word_weight b (Ok v) = omega arith
word_weight b (Err n) = omega arith

setting_weight : (a b : Worked) → weight (setting_of a b) ≤ 4
setting_weight (Err n) b = omega arith
setting_weight (Ok v) b = go (parameter_of v.0) b
  where
    go : (p : Option ℕ) (b : Worked) → weight (setting_at p b) ≤ 4
    go None b = omega arith
    go (Some n) (Ok w) = omega arith
    go (Some n) (Err k) = omega arith

item_weight : (t : List ℤ) (j : Item) → ItemOk j → weight (step_of (guarded t) j) ≤ length (write_item j)
item_weight t (word b v) o = omega (arith, word_weight b (value (guarded t) v), value_bytes v o.1)
item_weight t (setting v w) o =
    omega (arith, setting_weight (value (guarded t) v) (value (guarded t) w), value_bytes v o.0, value_bytes w o.1, length-append (write_value v) (byte "=" ∷ write_value w))
item_weight t (comment bs) o = omega arith

-- its work is no more than its bytes
item_work_holds : (j : Item) → ItemOk j → item_work j ≤ length (write_item j)
item_work_holds (word b v) o = omega (arith, value_work_holds v o.1)
item_work_holds (setting v w) o = omega (arith, value_work_holds v o.0, value_work_holds w o.1, length-append (write_value v) (byte "=" ∷ write_value w))
item_work_holds (comment bs) o = omega arith

pub past_on : {s : List ℕ} {i p : ℕ} {j : Item} → Past s i j p → (i < p) × (p ≤ length s)
past_on {s} {i} {p} {j} q =
    let z = item_ends s i j p (let l = q.inside in omega arith) q.is in
    omega (arith, z, item_writes j)

pub taken_weight : {t : List ℤ} {s : List ℕ} {i w p : ℕ} {st : Step Entry} → Taken t s i st w p → (i + weight st ≤ p) × (i + w ≤ p)
taken_weight {t} {s} {i} {w} {p} {st} q =
    let z = item_ends s i q.item p (let l = q.past.inside in omega arith) q.past.is in
    let o = item_right s i q.item p q.past.is in
    (omega (arith, z, item_weight t q.item o, ap weight q.gives), omega (arith, z, item_work_holds q.item o, q.works))

-- ---- what an item adds

pub items_on : {s : List ℕ} {i p : ℕ} {j : Item} → Past s i j p → items_t s i ≡ map_p (λ l. j ∷ l) (items_t s p)
items_on {s} {i} {p} {j} q = items_tree s i q.inside ∙ ap (λ (m : Placed Item). bind_p m (λ x r. map_p (λ l. x ∷ l) (items_t s r))) q.is

pub items_broken : (s : List ℕ) (i : ℕ) {p : ℕ} → i < length s → item_t s i ≡ wrong p → items_t s i ≡ wrong p
items_broken s i {p} h e = items_tree s i h ∙ ap (λ (m : Placed Item). bind_p m (λ x r. map_p (λ l. x ∷ l) (items_t s r))) e
