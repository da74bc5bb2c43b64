-- Laws of bytes put at a place: the length stays, and bytes put behind others are put with them at once.
use Rattle.std.specs.Prelude.{ℕ, ◌+◌, ◌≤◌, ◌<◌, ◌≡◌, List, [], ◌∷◌, ◌++◌, length, take, drop, set, Some, None}
use Rattle.std.proofs.Common.{ap, ◌∙◌, append_assoc, arith, add-one, le-leb, length-append, length-take, length-drop, take_at, drop_at, drop-drop}
use Rattle.std.proofs.lemmas.Bool.{lt-leb}
use Rattle.std.proofs.lemmas.List.{set_split}
use Rattle.std.proofs.Math.Seq.{append_snoc}
use Rattle.plan_output.specs.Put.{put_at, put_in, put_place}

pub put-length : (at : ℕ) (word buffer : List ℕ) → at + length word ≤ length buffer → length (put_at at word buffer) ≡ length buffer
put-length at word buffer h = simp (length-append, length-take, length-drop) (omega arith)

-- what is in front of the place, with the bytes put
front_length : (at : ℕ) (word buffer : List ℕ) → at + length word ≤ length buffer → length (take at buffer ++ word) ≡ at + length word
front_length at word buffer h = simp (length-append, length-take) (omega arith)

put-take : (at : ℕ) (word buffer : List ℕ) → at + length word ≤ length buffer
    → take (at + length word) (put_at at word buffer) ≡ take at buffer ++ word
put-take at word buffer h = take_at (take at buffer ++ word) (drop (at + length word) buffer) (at + length word) (front_length at word buffer h)

put-drop : (at n : ℕ) (word buffer : List ℕ) → at + length word ≤ length buffer
    → drop (at + length word + n) (put_at at word buffer) ≡ drop (at + length word + n) buffer
put-drop at n word buffer h =
    rw (← drop-drop n (at + length word) (put_at at word buffer))
    (ap (drop n) (drop_at (take at buffer ++ word) (drop (at + length word) buffer) (at + length word) (front_length at word buffer h))
    ∙ drop-drop n (at + length word) buffer)

-- bytes put behind others are put with them at once
pub put-put : (at : ℕ) (a b buffer : List ℕ) → at + length a + length b ≤ length buffer
    → put_at (at + length a) b (put_at at a buffer) ≡ put_at at (a ++ b) buffer
put-put at a b buffer h =
    let e : at + length (a ++ b) ≡ at + length a + length b = simp length-append (omega arith) in
    rw (put-take at a buffer (omega arith), put-drop at (length b) a buffer (omega arith), e, append_assoc (take at buffer) a b)

-- a byte stored is a byte put
pub put_one : (at b : ℕ) (buffer : List ℕ) → at < length buffer → set buffer at b ≡ put_at at (b ∷ []) buffer
put_one at b buffer h = rw (set_split buffer at b h, add-one at, append_snoc)

-- a put where there is room, and where there is none
pub put-in : (at : ℕ) (word buffer : List ℕ) → at + length word ≤ length buffer
    → (put_in at word buffer ≡ put_at at word buffer) × (put_place at word buffer ≡ Some (at + length word))
unfolding put_in put_place
put-in at word buffer h = let e = le-leb (at + length word) (length buffer) h in (rw e, rw e)

pub put_out : (at : ℕ) (word buffer : List ℕ) → length buffer < at + length word
    → (put_in at word buffer ≡ buffer) × (put_place at word buffer ≡ None)
unfolding put_in put_place
put_out at word buffer h = let e = lt-leb (at + length word) (length buffer) h in (rw e, rw e)
