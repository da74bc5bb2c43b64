-- What a text whose plan has lines shows: that nothing refused it, and what each step came to.
use Rattle.std.specs.Prelude.{ℕ, ◌≤◌, ◌≡◌, List, length, Option, Some, None, Result, Ok, Err}
use Rattle.std.proofs.Math.Path.{refl}
use Rattle.refusal.specs.Rows.{unless}
use Rattle.memory_range.specs.declared.range.TaggedRange.{TaggedRange}
use Rattle.boot_ram.specs.Held.{bytes_of}
use Rattle.vtl2_ram.specs.Choice.{Choice, chosen}
use Rattle.vtl2_ram.specs.Choice as choice-of
use Rattle.vtl2_ram.specs.Select.{choice}
use Rattle.address_space.specs.declared.request.AllocatedRange.{AllocatedRange}
use Rattle.address_space.specs.declared.table.AddressRange.{AddressRange}
use Rattle.memory.specs.Build.{Build, build, built}
use Rattle.memory.specs.Build as build-of
use Rattle.plan_record.specs.declared.record.Record.{Record}
use Rattle.plan_text.specs.Plan.{gets}
use Rattle.plan_text.specs.Text.{text_check, records_of, text_size}
use Rattle.plan_text.specs.Laws.Text.{accepted, accepted_size}
use Rattle.plan_input.specs.Input.{Input, input_of}
use Rattle.private_pool.specs.Pool.{Placement, placed}
use Rattle.private_pool.specs.Pool as placement
use Rattle.plan.specs.declared.line.OutputLine.{OutputLine}
use Rattle.plan.specs.Planner.{Plan, refused, lines, plan_lines, after_pool, after_build, after_choice, ranges_refusal, selected_plan, records_plan, records_given, checked_plan, plan_of}
use Rattle.plan.specs.Pool.{pages_wanted, placed_for}
use Rattle.refusal.specs.declared.Refusal.{Refusal}

-- the records of the text are read; the RAM is chosen, the table built, and the pool placed, if there is one; and the lines are of these
pub record Made (text : List ℕ) (ls : List OutputLine) : Type 0 where
  pub size : length text ≤ text_size
  pub records : List Record
  pub read : records_of text ≡ Some records
  pub input : Input
  pub given : input ≡ input_of records
  pub ram : List TaggedRange
  pub selected : choice input.shape.mode input.shape.isolation input.shape.memory_size input.file input.map input.imports
      ≡ chosen ram
  pub table : List AddressRange
  pub builds : build input.builder 0 ram input.configs input.gpools ≡ built table
  pub pool : List AllocatedRange
  pub left : List AddressRange
  pub places : placed_for (pages_wanted input.shape.isolation input.pool (bytes_of ram)) input.pool.split table ≡ placed pool left
  pub as-lines : ls ≡ plan_lines ram pool input.gets left

-- a refusal is no lines
not-lines : {n : Refusal} {ls : List OutputLine} → ◌≡◌ {A = Plan} (refused n) (lines ls) → ⊥
not-lines e = cc

unless-lines : (u : Option Refusal) (p : Plan) {ls : List OutputLine} → unless refused u p ≡ lines ls → p ≡ lines ls
unless-lines None p e = e
unless-lines (Some n) p e = absurd (not-lines e)

-- step by step, from the last
module _ (text : List ℕ) (ls : List OutputLine) (rs : List Record) (read : records_of text ≡ Some rs) (size : length text ≤ text_size) where
  abbrev i : Input
  i = input_of rs

  module _ (ram : List TaggedRange)
      (selected : choice i.shape.mode i.shape.isolation i.shape.memory_size i.file i.map i.imports ≡ chosen ram) where
    from-placement : (es : List AddressRange) → build i.builder 0 ram i.configs i.gpools ≡ built es → (p : Placement)
        → placed_for (pages_wanted i.shape.isolation i.pool (bytes_of ram)) i.pool.split es ≡ p → after_pool ram i.gets p ≡ lines ls
        → Made text ls
    from-placement es b (placement.refused n) e h = absurd (not-lines h)
    from-placement es b (placed pool left) e h =
        record {
          size = size;
          records = rs;
          read = read;
          input = i;
          given = refl;
          ram = ram;
          selected = selected;
          table = es;
          builds = b;
          pool = pool;
          left = left;
          places = e;
          as-lines = cc;
        }

    from-build : (b : Build) → build i.builder 0 ram i.configs i.gpools ≡ b
        → after_build i.shape.isolation i.pool ram i.gets b ≡ lines ls → Made text ls
    from-build (build-of.refused n) e h = absurd (not-lines h)
    from-build (built es) e h = from-placement es e _ refl h

  from-choice : (c : Choice)
      → choice i.shape.mode i.shape.isolation i.shape.memory_size i.file i.map i.imports ≡ c
      → after_choice i.shape.isolation i.pool i.builder i.gets i.configs i.gpools c ≡ lines ls → Made text ls
  from-choice (choice-of.refused n) e h = absurd (not-lines h)
  from-choice (chosen ram) e h = from-build ram e _ refl h

  from-records : records_plan rs ≡ lines ls → Made text ls
  unfolding records_plan
  from-records h = from-choice _ refl (unless-lines (ranges_refusal rs) (selected_plan i) h)

pub plan-made : (text : List ℕ) (ls : List OutputLine) → plan_of text ≡ lines ls → Made text ls
unfolding plan_of
plan-made text ls h = go (text_check text) refl h
  where
    go : (t : Result (Unit {0}) Refusal) → text_check text ≡ t → checked_plan t (records_given (records_of text)) ≡ lines ls → Made text ls
    go (Err n) e p = absurd (not-lines p)
    go (Ok done) e p =
        let a = accepted text e in
        from-records text ls a.0 a.1 (accepted_size text e) (rw a.1 at p)

-- the requests of the input are those of the records
pub gets-given : (rs : List Record) → (input_of rs).gets ≡ gets rs
unfolding input_of
gets-given rs = refl
