-- `line::put_line` meets its contract: a line of numbers of their widths fits the buffer, and what is put is the line.
use Rattle.std.specs.Prelude.{Option, Some}
use Prim.Native.Nat.{ℕ, ◌+◌, ◌≤◌}
use mathlib.Core.Path.{◌≡◌, refl, ◌∙◌}
use native.Mathlib.Omega.{arith}
use borrow.Author.Rules.{rules}
use denote.Enum.Declared.{variants}
use denote.Enum.Laws.{Fields, spellss, owed}
use lib.ListN.{length, take, drop, length-append}
use lib.Seq.{take_at}
use mathlib.Core.List.{List}
use Rattle.refusal.specs.Number.{number_of}
use Rattle.plan_output.specs.Put.{put_at, put_in, put_place}
use Rattle.plan_output.specs.Line.{written}
use Rattle.plan_output.specs.Laws.Line.{ram-fits, pool-fits, got-fits, no-fits, map-fits}
use Rattle.plan_output.specs.Laws.Put.{put-in}
use Rattle.plan.specs.declared.line.OutputLine.{OutputLine}
use Rattle.plan.specs.declared.line.OutputLine.TheVariants.{Ram, Pool, Got, No, Map}
use Rattle.plan.specs.Line.{line_bytes, line_size, Room}
use Rattle.plan.specs.Laws.Write.{wrote_one}
use Rattle.plan.specs.contracts.line.OutputLine as line-type
use Rattle.plan.proofs.line.OutputLine.TheLaws as line-laws
use Rattle.plan.proofs.line.put_line.Goals as goal

-- a line whose numbers have their widths fits
fits : (l : OutputLine) → Fields (variants line-type.the_type) (spellss line-type.the_parts line-laws.the_laws) ((line-type.the_type).to l)
    → length (line_bytes l) ≤ line_size
fits (Ram r n) f = ram-fits r (search rules) (search rules) n (search rules)
fits (Pool r n) f = pool-fits r (search rules) (search rules) n (search rules)
fits (Got r n) f = got-fits r (search rules) (search rules) n (search rules)
fits (No r) f = no-fits (number_of r)
fits (Map r t) f = map-fits r (search rules) (search rules) t

pub slice_bounds-buffer-end : goal.slice_bounds-buffer-end
slice_bounds-buffer-end c = let e = c.write_line-len.ensures in rw (e.value, e.buffer_after) (simp length-append (omega arith))

-- the front of the buffer is the line
spelled : (l : OutputLine) (b : List ℕ) (n : ℕ) (after : List ℕ) → n ≡ length (line_bytes l) → after ≡ written (line_bytes l) b
    → take n after ≡ line_bytes l
spelled l b n after e f = rw (e, f) (take_at (line_bytes l) (drop (length (line_bytes l)) b) (length (line_bytes l)) refl)

pub slice_bounds-put_word-end : goal.slice_bounds-put_word-end
slice_bounds-put_word-end c =
    let e = c.write_line-len.ensures in
    let s = spelled c.args.line _ _ _ e.value e.buffer_after in
    rw s e.value

-- there is room, so the line is put
placed : (l : OutputLine) (at : ℕ) (output : List ℕ) (b : List ℕ) (n : ℕ) (after : List ℕ) (answer : Option ℕ) (output' : List ℕ)
    → length (line_bytes l) ≤ line_size → Room 1 at output
    → n ≡ length (line_bytes l) → after ≡ written (line_bytes l) b
    → answer ≡ put_place at (take n after) output → output' ≡ put_in at (take n after) output
    → (answer ≡ Some (at + length (line_bytes l))) × (output' ≡ put_at at (line_bytes l) output)
placed l at output b n after answer output' few room e f p q =
    let s = spelled l b n after e f in
    let i = put-in at (line_bytes l) output (omega arith) in
    (rw s at p ∙ i.1, rw s at q ∙ i.0)

-- the line fits, by what its type says of it
pub unwrap-requires : goal.unwrap-requires
unwrap-requires c =
    let a = c.args in
    let e = c.write_line-len.ensures in
    let few = fits a.line (owed line-type.the_type line-laws.the_laws a.line _ c.well_formed.1.1.0) in
    let p = placed a.line a.at a.output.now _ _ _ _ _ few c.requires e.value e.buffer_after c.put_word.ensures.value c.put_word.ensures.buffer_after in
    rw p.0

pub returns : goal.returns
returns c =
    let a = c.args in
    let e = c.write_line-len.ensures in
    let few = fits a.line (owed line-type.the_type line-laws.the_laws a.line _ c.well_formed.1.1.0) in
    let p = placed a.line a.at a.output.now _ _ _ _ _ few c.requires e.value e.buffer_after c.put_word.ensures.value c.put_word.ensures.buffer_after in
    let place : c.unwrap.result ≡ a.at + length (line_bytes a.line) = cc (c.unwrap.ensures, p.0) in
    rw (place, p.1) (wrote_one a.line a.at a.output.now few)
