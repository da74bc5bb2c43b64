-- No entry is linked before the first one.
use Rattle.std.proofs.Common.{ℕ, refl, ap, ◌∙◌, length}
use Rattle.std.proofs.lemmas.List.{length-replicate}
use Rattle.boot_take.specs.Laws.Linked.{linked-none, highest-none}
use Rattle.boot_take.proofs.take.link_by_node.Goals as goal

pub loop-i-init : goal.loop-i-init
loop-i-init c =
    let blank = c.requires.1 in
    (refl, ap length blank ∙ length-replicate {A = ℕ} 64 0, linked-none _ c.args.lower.now, rw blank (highest-none _))
