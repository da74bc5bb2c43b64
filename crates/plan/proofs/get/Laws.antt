-- Laws of requests that are answered one after the other: what an answer says of the request, and what is left behind the first.
use Rattle.std.specs.Prelude.{Some, Result}
use mathlib.Core.Bool.{◌||◌}
use mathlib.Core.Path.{◌≡◌, refl}
use mathlib.Core.List.{List, ◌∷◌}
use Rattle.refusal.specs.declared.Refusal.{Refusal}
use Rattle.host_params.specs.declared.AllocationType.{AllocationType}
use Rattle.address_space.specs.declared.request.AllocatedRange.{AllocatedRange}
use Rattle.address_space.specs.declared.table.AddressRange.{AddressRange}
use Rattle.address_space.specs.declared.table.AddressSpaceManager.{AddressSpaceManager}
use Rattle.address_space.specs.Request.{Outcome, refused, handed, allocation_as, search_refusal}
use Rattle.address_space.specs.Table.{entries_of, pool_of}
use Rattle.address_space.specs.Usage.{is_pool}
use Rattle.address_space.specs.Laws.Request.{search_refused}
use Rattle.address_space.specs.Laws.Split.{entries_with}
use Rattle.plan_record.specs.declared.record.Get.{Get}
use Rattle.plan.specs.Get.{outcome_on, outcome_line, left_by, get_lines, after_gets, answer_line}

module _ (m : AddressSpaceManager) (t : AllocationType) where
  -- the line of an answer is that of the outcome, and the table has the entries that the request leaves
  line_as : (o : Outcome) → answer_line (allocation_as m t o).answer ≡ outcome_line o
  line_as (refused n) = refl
  line_as (handed x es) = refl

  left_as : (o : Outcome) → entries_of (allocation_as m t o).manager ≡ left_by (entries_of m) o
  left_as (refused n) = refl
  left_as (handed x es) = entries_with m es (pool_of m || is_pool t)

-- the first request, its answer and the table that comes with it: its line comes before those of the others, which are answered on
-- that table
module _ (m : AddressSpaceManager) (g : Get) (gs : List Get) {answer : Result AllocatedRange Refusal} {after : AddressSpaceManager}
    (e : answer ≡ (allocation_as m g.allocation_type (outcome_on g (entries_of m))).answer)
    (f : after ≡ (allocation_as m g.allocation_type (outcome_on g (entries_of m))).manager) where
  pub first_line : get_lines (g ∷ gs) (entries_of m) ≡ answer_line answer ∷ get_lines gs (entries_of after)
  first_line = rw (e, f, line_as, left_as)

  pub first-after : after_gets (g ∷ gs) (entries_of m) ≡ after_gets gs (entries_of after)
  first-after = rw (f, left_as)

-- one that is refused before its split
pub outcome_refused : (g : Get) (es : List AddressRange) (n : Refusal)
    → search_refusal g.required_vnode g.len g.allocation_policy g.alignment es ≡ Some n → outcome_on g es ≡ refused n
outcome_refused g es n e = search_refused g.required_vnode g.len g.allocation_policy g.alignment es g.allocation_type n e
