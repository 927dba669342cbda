-- The lines of a text one after the other, and where each stands.
-- Assumes nothing.
use mathlib.Core.Path.{◌≡◌, refl, sym, ap, ap₂, ◌∙◌}
use mathlib.Core.List.{List, [], ◌∷◌, ◌++◌, append_assoc}
use Rattle.std.specs.Prelude.{None, Some, slice_range}
use Prim.Native.Nat.{ℕ, zero, suc, ◌+◌, ◌-◌, ◌≤◌, ◌<◌}
use native.Mathlib.Omega.{arith}
use lib.ListN.{length, take, drop, length-append, length-drop}
use lib.Seq.{drop-append-add, take-append_seam, length-take-le}
use Rattle.texts.specs.Ends.{Piece, pieces, joined}
use Rattle.texts.proofs.Cutting.{fed, returned, Cut, none, last, next, cut_again, pieces_cut, joined_is}
use Rattle.texts.proofs.Walking.{pieces_most}
use Rattle.index.specs.Index.{size, line_at, start_at, line_of}
use Rattle.index.specs.Lines.{LineAt}
use Rattle.index.proofs.Replaced.{line_none}

pub part_long : (text : List ℕ) (at end : ℕ) → end ≤ length text → length (slice_range text at end) ≡ end - at
part_long text at end h = length-take-le (end - at) (drop at text) (omega (arith, length-drop at text))

-- ---- the lines from one on, and the text from its first byte on

drop_joined : (i : ℕ) (ps : List Piece) → drop (start_at i ps) (joined ps) ≡ joined (drop i ps)
drop_joined zero ps = refl
drop_joined (suc i) [] = refl
drop_joined (suc i) (p ∷ ps) =
    let x = p.line ++ p.end in
    let n : size p + start_at i ps ≡ length x + start_at i ps = omega (arith, length-append p.line p.end) in
    ap₂ drop n (sym (append_assoc p.line p.end (joined ps))) ∙ drop-append-add x (joined ps) (start_at i ps) ∙ drop_joined i ps

cut_drop : {ps : List Piece} → Cut ps → (i : ℕ) → Cut (drop i ps)
cut_drop c zero = c
cut_drop none (suc i) = none
cut_drop (last h) (suc zero) = none
cut_drop (last h) (suc (suc i)) = none
cut_drop (next e c) (suc i) = cut_drop c i

lines_from : (text : List ℕ) (i : ℕ) → pieces (drop (start_at i (pieces text)) text) ≡ drop i (pieces text)
lines_from text i =
    ap (λ (x : List ℕ). pieces (drop (start_at i (pieces text)) x)) (sym (joined_is text)) ∙ ap pieces (drop_joined i (pieces text)) ∙ cut_again (cut_drop (pieces_cut text) i)

bytes_at : (i : ℕ) (ps : List Piece) (s : List ℕ) → line_at i ps ≡ Some s → take (length s) (drop (start_at i ps) (joined ps)) ≡ s
bytes_at i ps s e = ap (take (length s)) (drop_joined i ps) ∙ go i ps e
  where
    go : (i : ℕ) (ps : List Piece) → line_at i ps ≡ Some s → take (length s) (joined (drop i ps)) ≡ s
    go i [] e = cc
    go zero (p ∷ ps) e = let q : p.line ≡ s = cc in ap (λ (x : List ℕ). take (length s) (x ++ (p.end ++ joined ps))) q ∙ take-append_seam s (p.end ++ joined ps)
    go (suc i) (p ∷ ps) e = go i ps e

start_within : (i : ℕ) (ps : List Piece) → start_at i ps ≤ length (joined ps)
start_within zero ps = omega arith
start_within (suc i) [] = omega arith
start_within (suc i) (p ∷ ps) = omega (arith, start_within i ps, length-append p.line (p.end ++ joined ps), length-append p.end (joined ps))

-- each line has a byte, or what ends it has
sized : {p : Piece} {ps : List Piece} → Cut (p ∷ ps) → 1 ≤ size p
sized (last h) = omega arith
sized (next (fed h u) c) = omega arith
sized (next (returned h) c) = omega arith

start_far : (i : ℕ) (ps : List Piece) → Cut ps → i ≤ length ps → i ≤ start_at i ps
start_far zero ps c h = omega arith
start_far (suc i) [] c h = absurd (omega arith)
start_far (suc i) (p ∷ ps) c h = let k = sized c in let m = start_far i ps (cut_drop c 1) (omega arith) in omega arith

-- ---- the next line

pub record NextAt (i : ℕ) (ps : List Piece) (p : Piece) (rest : List Piece) : Type 0 where
  pub later : drop (suc i) ps ≡ rest
  pub start : start_at (suc i) ps ≡ start_at i ps + size p
  pub line : line_at i ps ≡ Some p.line
  pub more : i < length ps

next_at : (i : ℕ) (ps : List Piece) {p : Piece} {rest : List Piece} → drop i ps ≡ p ∷ rest → NextAt i ps p rest
next_at i [] e = go i e
  where
    go : (i : ℕ) {p : Piece} {rest : List Piece} → drop i [] ≡ p ∷ rest → NextAt i [] p rest
    go zero e = cc
    go (suc i) e = cc
next_at zero (q ∷ ps) {p} {rest} e =
    let a : q ≡ p = cc in
    let b : ps ≡ rest = cc in
    record { later = b; start = omega (arith, ap size a); line = ap (λ (x : Piece). Some x.line) a; more = omega arith }
next_at (suc i) (q ∷ ps) e =
    let n = next_at i ps e in
    record { later = n.later; start = omega (arith, n.start); line = n.line; more = omega (arith, n.more) }

-- ---- line k, from 1: so many lines come before it, from the line that starts here on

pub record OnTheWay (text : List ℕ) (k left start : ℕ) (rest : List Piece) : Type 0 where
  pub most : left < k
  pub later : drop (k - 1 - left) (pieces text) ≡ rest
  pub begins : start ≡ start_at (k - 1 - left) (pieces text)

module _ (text : List ℕ) (k : ℕ) where
  pub way_missing : {left start : ℕ} → OnTheWay text k left start [] → line_of k text ≡ None
  way_missing {left} {start} q =
      let l : length (pieces text) - (k - 1 - left) ≡ 0 = sym (length-drop (k - 1 - left) (pieces text)) ∙ ap length q.later in
      let e : k ≡ suc (k - 1) = omega (arith, q.most) in
      ap (λ (x : ℕ). line_of x text) e ∙ line_none (k - 1) (pieces text) (omega arith)

  module _ {left start : ℕ} {p : Piece} {rest : List Piece} (q : OnTheWay text k left start (p ∷ rest)) where
    here : NextAt (k - 1 - left) (pieces text) p rest
    here = next_at (k - 1 - left) (pieces text) q.later

    pub way_room : start + size p ≤ length text
    way_room = omega (arith, here.start, q.begins, start_within (suc (k - 1 - left)) (pieces text), ap length (joined_is text))

    pub way_found : left ≡ 0 → LineAt text k (record { start = start; end = start + length p.line; next = start + length p.line + length p.end })
    way_found e =
        let i : k - 1 - left ≡ k - 1 = omega arith in
        let j : suc (k - 1 - left) ≡ k = omega (arith, q.most) in
        let b : start_at (k - 1) (pieces text) ≡ start = ap (λ (x : ℕ). start_at x (pieces text)) (sym i) ∙ sym q.begins in
        let a : start_at k (pieces text) ≡ start + length p.line + length p.end = ap (λ (x : ℕ). start_at x (pieces text)) (sym j) ∙ omega (arith, here.start, q.begins) in
        let l : line_at (k - 1) (pieces text) ≡ Some p.line = ap (λ (x : ℕ). line_at x (pieces text)) (sym i) ∙ here.line in
        let z : start + length p.line - start ≡ length p.line = omega arith in
        let s : slice_range text start (start + length p.line) ≡ p.line =
        ap₂ (λ (x y : ℕ). take x (drop y text)) z (sym b) ∙ ap (λ (x : List ℕ). take (length p.line) (drop (start_at (k - 1) (pieces text)) x)) (sym (joined_is text)) ∙ bytes_at (k - 1) (pieces text) p.line l in
        record {
          counts = omega (arith, q.most);
          few = omega (arith, start_far k (pieces text) (pieces_cut text) (omega (arith, here.more)));
          from = omega arith;
          behind = omega arith;
          within = omega (arith, way_room);
          line = l ∙ ap Some (sym s);
          start = b;
          after = a;
          later = sym (ap (λ (x : ℕ). pieces (drop x text)) (sym a) ∙ lines_from text k);
        }

    pub way_on : (left ≡ 0 → ⊥) → OnTheWay text k (left - 1) (start + length p.line + length p.end) rest
    way_on n =
        let j : k - 1 - (left - 1) ≡ suc (k - 1 - left) = omega (arith, n, q.most) in
        record { most = omega (arith, q.most); later = rw j here.later; begins = rw j (omega (arith, here.start, q.begins)) }

-- ---- from a line on, which is line k and starts at a place: how many lines and bytes are left

pub record Onward (text : List ℕ) (k at : ℕ) (rest : List Piece) : Type 0 where
  pub few : k + length rest ≤ suc (length text)
  pub bytes : at + length (joined rest) ≡ length text

pub onward_begun : (text : List ℕ) → Onward text 1 0 (pieces text)
onward_begun text = record { few = omega (arith, pieces_most text); bytes = omega (arith, ap length (joined_is text)) }

pub onward_from : (text : List ℕ) (k at : ℕ) → at ≤ length text → k ≤ at + 1 → Onward text k at (pieces (drop at text))
onward_from text k at h l = record { few = omega (arith, pieces_most (drop at text), length-drop at text); bytes = omega (arith, ap length (joined_is (drop at text)), length-drop at text) }

pub onward_next : {text : List ℕ} {k at : ℕ} {p : Piece} {rest : List Piece} → Onward text k at (p ∷ rest) → Onward text (k + 1) (at + size p) rest
onward_next {text} {k} {at} {p} {rest} q =
    let b = q.bytes in
    let f = q.few in
    record { few = omega arith; bytes = omega (arith, length-append p.line (p.end ++ joined rest), length-append p.end (joined rest)) }
