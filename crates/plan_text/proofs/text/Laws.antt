-- The step at a place of the text by the first bytes from there on, as many as the longest line has with its newline. `room` is
-- how many of them there are, and `line` what is in front of the first newline among them.
use Rattle.std.specs.Prelude.{Option, Some, None, Err}
use Prim.Native.Nat.{ℕ, ◌+◌, ◌-◌, ◌≤◌, ◌<◌, min}
use mathlib.Core.Path.{◌≡◌, refl, ap, ◌∙◌}
use mathlib.Core.List.{List}
use native.Mathlib.Omega.{arith}
use native.Mathlib.Decide.{dec_lt}
use lib.ListN.{length, take, drop, length-take, length-drop}
use lib.Seq.{take_all}
use Rattle.refusal.specs.Number.{line_malformed}
use Rattle.plan_fields.specs.Cut.{newline, first_part}
use Rattle.plan_fields.specs.Laws.Cut.{first-length, first-take}
use Rattle.plan_record.specs.declared.record.Record.{Record}
use Rattle.plan_record.specs.Record.{line_of}
use Rattle.line_claims.proofs.Laws.Short.{line-short}
use Rattle.plan_text.specs.Text.{line_at, line_step, record_step}
use Rattle.plan_text.specs.Laws.Text.{step-at_last, step-at_line}

module _ (text : List ℕ) (at room : ℕ) (line : List ℕ) (inside : at < length text) (most : room ≡ min (length text - at) 64)
    (cut : line ≡ first_part newline (take room (drop at text))) where
  front : line ≡ take room (line_at text at)
  front = cut ∙ first-take newline room (drop at text)

  front_length : length line ≡ min room (length (line_at text at))
  front_length = ap length front ∙ length-take room (line_at text at)

  -- a newline among them ends the line
  pub line-found : (length line ≡ room → ⊥) → line ≡ line_at text at
  line-found h = front ∙ take_all room (line_at text at) (omega (arith, front_length))

  pub line_inside : (length line ≡ room → ⊥) → at + length (line_at text at) < length text
  line_inside h = omega (arith, front_length, most)

  -- with none among them the line goes on to the end of the text, or is longer than any that has a record
  long_line : (o : Option Record) → line_of (line_at text at) ≡ o → 64 ≤ length (line_at text at)
      → line_step o (at + length (line_at text at) + 1) ≡ Err line_malformed
  long_line None e h = refl
  long_line (Some r) e h = absurd (omega (arith, line-short (line_at text at) r e))

  pub line-malformed : length line ≡ room → record_step text at ≡ Err line_malformed
  line-malformed h = elim (dec_lt (at + length (line_at text at)) (length text)) [
    | yes k ↦
        step-at_line text at k
        ∙ long_line (line_of (line_at text at)) refl (omega (arith, front_length, most))
    | no k ↦ step-at_last text at inside (omega (arith, first-length newline (drop at text), length-drop at text))
  ]
