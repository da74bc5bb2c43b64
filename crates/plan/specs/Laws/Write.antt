-- Laws of lines written: none, some behind others, how long the output stays and what room is left; and of lists that are written
-- line by line.
use Rattle.std.specs.Prelude.{ℕ, ◌+◌, ◌≤◌, ◌≡◌, refl, List, [], ◌∷◌, ◌++◌, length}
use Rattle.std.proofs.Common.{ap, ap₂, sym, ◌∙◌, append-nil, append_assoc, arith, add-zero, length-append, take-append-drop}
use Rattle.plan_output.specs.Put.{put_at}
use Rattle.plan_output.specs.Laws.Put.{put-length, put-put}
use Rattle.plan.specs.declared.line.OutputLine.{OutputLine}
use Rattle.plan.specs.Line.{line_bytes, lines_bytes, line_size, Room, Wrote}

lines_append : (ls ms : List OutputLine) → lines_bytes (ls ++ ms) ≡ lines_bytes ls ++ lines_bytes ms
lines_append [] ms = refl
lines_append (l ∷ ls) ms = rw (lines_append ls ms, append_assoc)

-- no line
pub wrote_none : (at : ℕ) (b : List ℕ) → Wrote [] at b b at
wrote_none at b = record { place = omega arith; bytes = rw (append-nil, add-zero, take-append-drop); within = omega arith }

-- one line
pub wrote_one : (l : OutputLine) (at : ℕ) (b : List ℕ) → length (line_bytes l) ≤ line_size
    → Wrote (l ∷ []) at b (put_at at (line_bytes l) b) (at + length (line_bytes l))
wrote_one l at b h = record { place = rw append-nil; bytes = rw append-nil; within = omega arith }

-- the bytes of lines have room, the output keeps its length, and there is room behind them
pub wrote-length : {ls : List OutputLine} {at r : ℕ} {b₀ b₁ : List ℕ} → Wrote ls at b₀ b₁ r → Room (length ls) at b₀
    → length b₁ ≡ length b₀
wrote-length {ls} {at} {r} {b₀} w room = ap length w.bytes ∙ put-length at (lines_bytes ls) b₀ (omega arith)

pub wrote_room : {ls : List OutputLine} {at r : ℕ} {b₀ b₁ : List ℕ} (n : ℕ) → Wrote ls at b₀ b₁ r → Room (length ls + n) at b₀
    → Room n r b₁
wrote_room n w room = omega (arith, wrote-length w (omega arith))

-- lines behind others are written with them
pub wrote_append : {ls ms : List OutputLine} {at r₁ r₂ : ℕ} {b₀ b₁ b₂ : List ℕ}
    → Wrote ls at b₀ b₁ r₁ → Wrote ms r₁ b₁ b₂ r₂ → Room (length ls + length ms) at b₀ → Wrote (ls ++ ms) at b₀ b₂ r₂
wrote_append {ls} {ms} {at} {r₁} {r₂} {b₀} {b₁} v w room =
    record {
      place = rw lines_append (simp length-append (omega (arith, v.place, w.place)));
      bytes =
          w.bytes ∙ ap₂ (λ (n : ℕ) (b : List ℕ). put_at n (lines_bytes ms) b) v.place v.bytes
          ∙ put-put at (lines_bytes ls) (lines_bytes ms) b₀ (omega (arith, v.place, w.place, v.within, w.within))
          ∙ ap (λ (bs : List ℕ). put_at at bs b₀) (sym (lines_append ls ms));
      within = simp length-append (omega (arith, v.within, w.within));
    }

-- lines are being written: those that are left stand behind those that were
pub record Writing (all rest : List OutputLine) (at : ℕ) (before : List ℕ) (next : ℕ) (after : List ℕ) : Type 0 where
  pub done : List OutputLine
  pub parts : all ≡ done ++ rest
  pub wrote : Wrote done at before after next

pub writing_start : (ls : List OutputLine) (at : ℕ) (b : List ℕ) → Writing ls ls at b at b
writing_start ls at b = record { done = []; parts = refl; wrote = wrote_none at b }

module _ {all rest : List OutputLine} {at next : ℕ} {b₀ b : List ℕ} (w : Writing all rest at b₀ next b) where
  pub writing-end : rest ≡ [] → Wrote all at b₀ b next
  writing-end e = rw (w.parts, e, append-nil) w.wrote

  module _ (room : Room (length all) at b₀) where
    count : length all ≡ length w.done + length rest
    count = ap length w.parts ∙ length-append w.done rest

    pub writing-length : length b ≡ length b₀
    writing-length = wrote-length w.wrote (omega (arith, count))

    module _ {l : OutputLine} {ls : List OutputLine} (e : rest ≡ l ∷ ls) where
      pub writing_room : Room 1 next b
      writing_room = wrote_room 1 w.wrote (omega (arith, count, ap length e))

      pub writing_more : {b' : List ℕ} {r : ℕ} → Wrote (l ∷ []) next b b' r → Writing all ls at b₀ r b'
      writing_more v =
          record {
            done = w.done ++ l ∷ [];
            parts = w.parts ∙ rw (e, append_assoc);
            wrote = wrote_append w.wrote v (omega (arith, count, ap length e));
          }
