-- `get::get_in` meets its contract: a record of another variant holds no request.
use Rattle.std.proofs.Common.{◌≡◌, refl, []}
use Rattle.plan_record.specs.declared.record.Get as get_type
use Rattle.plan_record.specs.declared.record.Record.{Record}
use Rattle.plan_record.specs.declared.record.Record.TheVariants.{Shape, File, Mem, Import, Used, State, Config, Keep, Side, Tables, Log, Gpool, Pool, Get}
use Rattle.plan_text.specs.Plan.{held_by, get_held}
use Rattle.plan.proofs.get.get_in.Goals as goal

other : (r : Record) → ((g : get_type.Get) → r ≡ Get g → ⊥) → get_held (held_by r) ≡ []
other (Shape x) h = refl
other (File x) h = refl
other (Mem x) h = refl
other (Import x) h = refl
other (Used x) h = refl
other (State x) h = refl
other (Config x) h = refl
other (Keep x) h = refl
other (Side x) h = refl
other (Tables x) h = refl
other (Log x) h = refl
other (Gpool x) h = refl
other (Pool x) h = refl
other (Get x) h = absurd (h x refl)

pub returns-in_default : goal.returns-in_default
returns-in_default c = rw (other c.args.«record» c.in_default.not-Get)
