-- An output for every text suffices for this one.
use mathlib.Core.Path.{◌≡◌}
use native.Mathlib.Omega.{arith}
use borrow.Author.Rules.{rules}
use lib.ListN.{length}
use Rattle.plan_text.specs.Text.{text_size}
use Rattle.plan.specs.Planner.{output_size_for}
use Rattle.plan.proofs.planner.plan.Goals as goal

pub plan_within-requires : goal.plan_within-requires
plan_within-requires c =
    let size : length c.args.output.now ≡ output_size_for text_size = search rules in
    omega arith

pub returns : goal.returns
returns c = let a = c.plan_within.ensures in record {
  value = a.answer;
  output_after = a.output;
}
