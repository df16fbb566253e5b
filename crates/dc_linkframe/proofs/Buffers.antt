-- What a buffer keeps when bytes are added.
use Rattle.std.proofs.Common.{◌≡◌, ℕ, ◌-◌, ◌≤◌, List, ◌++◌, length, take, drop, replicate, refl, ap, ◌∙◌, sym, arith}
use Rattle.std.proofs.lemmas.List.{length-append, drop-replicate, append_assoc}
use Rattle.std.proofs.Math.Seq.{take-append_seam, drop-append_seam}
use borrow.Rule.Slice.PartMut.{put_mid}
use Rattle.dc_linkframe.specs.Buffer.{capacity, padded, IsBuffer}

-- the bytes that are padded
pub take-padded : (bytes : List ℕ) (len : ℕ) → len ≡ length bytes → take len (padded bytes) ≡ bytes
take-padded bytes len counted =
    ap (λ n. take n (padded bytes)) counted ∙ take-append_seam bytes (replicate (capacity - length bytes) 0)

-- bytes with zeros after them are a buffer's
pub IsBuffer-padded : (bytes : List ℕ) (len : ℕ) → len ≡ length bytes → len ≤ capacity → IsBuffer (padded bytes) len
IsBuffer-padded bytes len counted fits =
    let front = take-padded bytes len counted in
    record { fits = fits; counted = ap length front ∙ sym counted; zeros = ap padded front }

-- the zeros after bytes and more bytes
fewer_zeros : (bytes more : List ℕ) → drop (length more) (drop (length bytes) (padded bytes)) ≡ replicate (capacity - length (bytes ++ more)) 0
fewer_zeros bytes more =
    ap (drop (length more)) (drop-append_seam bytes (replicate (capacity - length bytes) 0))
    ∙ drop-replicate (length more) (capacity - length bytes) 0
    ∙ ap (λ n. replicate n 0) (omega (arith, length-append bytes more))

-- bytes written after others stand before the zeros
written : (bytes more : List ℕ) → put_mid (length bytes) (length more) (padded bytes) more ≡ padded (bytes ++ more)
written bytes more =
    ap (λ front. front ++ (more ++ drop (length more) (drop (length bytes) (padded bytes)))) (take-padded bytes (length bytes) refl)
    ∙ ap (λ zeros. bytes ++ (more ++ zeros)) (fewer_zeros bytes more)
    ∙ sym (append_assoc bytes more _)

-- the same of a buffer's array, as code writes to it
pub put_mid-padded : (array bytes more new : List ℕ) (from count : ℕ) → array ≡ padded bytes → from ≡ length bytes → count ≡ length more → new ≡ more → put_mid from count array new ≡ padded (bytes ++ more)
put_mid-padded array bytes more new from count is_padded at counted is_more =
    rw (is_padded, at, counted, is_more) (written bytes more)
