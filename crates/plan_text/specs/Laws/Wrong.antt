-- Wrong answers about a text: the definition gives another one.
use Rattle.std.specs.Prelude.{ℕ, ◌≡◌, refl, ◌≢◌, Bool, true, false, cond, List, [], ◌∷◌, ◌++◌, length, Option, Some, None, Ok, Err}
use Rattle.std.proofs.Common.{ap, sym, ◌∙◌, arith}
use Rattle.refusal.specs.Number.{number_of, line_malformed, record_order, text_too_long}
use Rattle.memory_range.specs.declared.range.MemoryRange.{MemoryRange}
use Rattle.memory_range.specs.Range.{range}
use Rattle.plan_fields.specs.Cut.{newline}
use Rattle.plan_fields.specs.Word.{ascii}
use Rattle.plan_fields.specs.Laws.Wrong.{differ}
use Rattle.plan_record.specs.declared.record.Record.{Record}
use Rattle.plan_record.specs.declared.record.Record.TheVariants.{File, Used, Keep}
use Rattle.plan_output.specs.Number.{hex_of}
use Rattle.line_claims.specs.Spelling.{line_for}
use Rattle.plan_text.specs.OrderStep.{TextCheck}
use Rattle.plan_text.specs.Order.{place_of, in_order_of}
use Rattle.plan_text.specs.Spelling.{text_for}
use Rattle.plan_text.specs.Text.{order_check, records_of, text_check, record_step}
use Rattle.plan_text.specs.Laws.Text.{short_enough, place_behind}

abbrev page : MemoryRange
page = range 0x1000 0x2000

-- the number of a refusal, or 0
abbrev refusal_of : TextCheck → ℕ
refusal_of (Ok x) = 0
refusal_of (Err r) = number_of r

-- a text without a `used` line passes
pub used-left_out : text_check (ascii "shape\th\tnone\t-\nfile\t1000\t2000\nstate\t1000\t2000\npool\toff\t-\t-\t4\tn\n") ≢ Ok tt
unfolding text_check in_order_of
used-left_out e = omega (arith, ap refusal_of e)

-- 65,536 bytes refused
pub full_text_refused : (text : List ℕ) → length text ≡ 65_536 → text_check text ≢ Err text_too_long
full_text_refused text h e = by (records_of text) (sym (short_enough text (omega arith)) ∙ e)
  where
    in_order : (t : Bool) → ◌≢◌ {A = TextCheck} (cond t (Ok tt) (Err record_order)) (Err text_too_long)
    in_order true e = omega (arith, ap refusal_of e)
    in_order false e = omega (arith, ap refusal_of e)

    by : (o : Option (List Record)) → order_check o ≢ Err text_too_long
    by None e = omega (arith, ap refusal_of e)
    by (Some rs) e = in_order (in_order_of rs) e

-- the newline of the same line again
pub same_line-again : record_step (ascii "used\t1000\t2000\n") 0 ≢ Ok (Some (Used page, 14))
unfolding record_step
same_line-again e = omega (arith, ap place_behind e)

-- the longest line refused
pub longest_line_refused : record_step (ascii "pool\tpages\tffffffffffffffff\tffffffffffffffff\tffffffffffffffff\ty\n") 0 ≢ Err line_malformed
unfolding record_step
longest_line_refused e = omega (arith, ap place_behind e)

-- lines without a newline between them
pub lines_run_together : text_for (File page ∷ Used page ∷ []) ≢ line_for (File page) ++ line_for (Used page) ++ newline ∷ []
unfolding hex_of
lines_run_together = differ refl

-- the place of another word
pub place_of_another : (r : MemoryRange) → place_of (Keep r) ≢ 8
place_of_another r = omega arith
