-- Digits and fields, put one after the other, and how long a frame is.
-- Assumes nothing.
use mathlib.Core.Path.{◌≡◌, refl, ap, sym, ◌∙◌}
use mathlib.Core.List.{List, [], ◌∷◌, ◌++◌, append_assoc}
use Prim.Native.Nat.{ℕ, zero, suc, ◌+◌, ◌-◌, ◌*◌, ◌/◌, ◌%◌, ◌<◌}
use native.Mathlib.Omega.{arith}
use native.Mathlib.Nat.{div-div-eq-div-mul}
use lib.IntN.{ℤ, pos}
use lib.ListN.{length, length-append, set, take, get_or}
use lib.Seq.{sets, take-suc, length-take-le}
use Rattle.rules.specs.Frames.{hex, complement, fields}
use Rattle.frames.proofs.Packed.{bytes_of}
use Rattle.frames.proofs.Stores.{sets_append, set_behind, run_behind}

pub length_hex : (k n : ℕ) → length (hex k n) ≡ k
length_hex zero n = refl
length_hex (suc k) n =
    let ih = length_hex k (n / 16) in
    simp length-append (omega (arith, ih))

-- the last byte put first, and the others before it: the text that is to come stays what it was
length_bytes : (k n : ℕ) → length (bytes_of k n) ≡ k
unfolding bytes_of
length_bytes zero n = refl
length_bytes (suc k) n =
    let ih = length_bytes k (n / 256) in
    simp length-append (omega (arith, ih))

last_first : (l : List ℕ) (at k n : ℕ) → sets (set l (at + k) (n % 256)) at (bytes_of k (n / 256)) ≡ sets l at (bytes_of (suc k) n)
unfolding bytes_of
last_first l at k n =
    let a = bytes_of k (n / 256) in
    sym (set_behind a l at (at + k) (n % 256) (omega (arith, length_bytes k (n / 256))))
    ∙ ap (λ (m : ℕ). set (sets l at a) (at + m) (n % 256)) (sym (length_bytes k (n / 256)))
    ∙ sym (sets_append a (n % 256 ∷ []) l at)

pub byte_put : (l : List ℕ) (at left rest : ℕ) → 0 < left
    → sets (set l (at + (left - 1)) (rest % 256)) at (bytes_of (left - 1) (rest / 256)) ≡ sets l at (bytes_of left rest)
byte_put l at left rest h =
    let p : suc (left - 1) ≡ left = omega arith in
    last_first l at (left - 1) rest ∙ ap (λ (k : ℕ). sets l at (bytes_of k rest)) p

-- the last eight digits put first, and two before them
pub ten_put : {t t' : List ℕ} (l : List ℕ) (at n : ℕ) → t ≡ sets l (at + 2) (hex 8 n) → t' ≡ sets t at (hex 2 (n / 4294967296))
    → t' ≡ sets l at (hex 10 n)
ten_put {t} {t'} l at n ht ht' =
    let q : n / 4294967296 ≡ n / 16 / 16 / 16 / 16 / 16 / 16 / 16 / 16 = simp div-div-eq-div-mul in
    ht'
    ∙ ap (λ (m : List ℕ). sets m at (hex 2 (n / 4294967296))) ht
    ∙ run_behind (hex 2 (n / 4294967296)) (hex 8 n) l at (at + 2) (omega arith)
    ∙ sym (sets_append (hex 2 (n / 4294967296)) (hex 8 n) l at)
    ∙ ap (λ (m : ℕ). sets l at (hex 2 m ++ hex 8 n)) q

pub fields_append : (a b : List ℤ) → fields (a ++ b) ≡ fields a ++ fields b
fields_append [] b = refl
fields_append (z ∷ a) b =
    ap (λ (t : List ℕ). hex 10 (complement z) ++ t) (fields_append a b) ∙ sym (append_assoc (hex 10 (complement z)) (fields a) (fields b))

pub length_fields : (zs : List ℤ) → length (fields zs) ≡ 10 * length zs
length_fields [] = refl
length_fields (z ∷ zs) =
    let ih = length_fields zs in
    omega (arith, length-append (hex 10 (complement z)) (fields zs), length_hex 10 (complement z), ih)

-- a field more
pub field_put : {t t' : List ℕ} {n : ℕ} (l : List ℕ) (zs : List ℤ) (at j : ℕ) → j < length zs
    → t ≡ sets l at (fields (take j zs)) → n ≡ complement (get_or zs j (pos 0)) → t' ≡ sets t (at + 10 * j) (hex 10 n)
    → t' ≡ sets l at (fields (take (j + 1) zs))
field_put {t} {t'} {n} l zs at j h ht hn ht' =
    let a = take j zs in
    let z = get_or zs j (pos 0) in
    let p : j + 1 ≡ suc j = omega arith in
    let q : at + 10 * j ≡ at + length (fields a) = omega (arith, length_fields a, length-take-le j zs (omega arith)) in
    ht'
    ∙ ap (λ (m : List ℕ). sets m (at + 10 * j) (hex 10 n)) ht
    ∙ ap (λ (m : ℕ). sets (sets l at (fields a)) (at + 10 * j) (hex 10 m)) hn
    ∙ ap (λ (k : ℕ). sets (sets l at (fields a)) k (hex 10 (complement z))) q
    ∙ sym (sets_append (fields a) (hex 10 (complement z)) l at)
    ∙ ap (sets l at) (sym (fields_append a (z ∷ [])) ∙ ap fields (sym (take-suc zs j (pos 0) h) ∙ ap (λ (k : ℕ). take k zs) (sym p)))
