-- A share is rounded up to an answer, or is above the highest page multiple.
use Rattle.std.proofs.Common.{ℕ, ◌≡◌, sym, ◌∙◌, Option, Some, None, ok_or}
use Rattle.boot_nodes.specs.Share.{share_of, share_per_node}
use Rattle.boot_nodes.specs.Laws.Share.{share_within, share-beyond}
use Rattle.refusal.specs.Number.{share_too_large}
use Rattle.vtl2_ram.specs.Boot.{share_as, share_too_large_for}
use Rattle.vtl2_ram.proofs.boot.share_of.Goals as goal

told : (size n : ℕ) (r : Option ℕ) → r ≡ share_per_node size n → ok_or r share_too_large ≡ share_as (share_too_large_for size n) (share_of size n)
told size n (Some s) e = let w = share_within size n (sym e) in rw (w.2, w.0)
told size n None e = rw (share-beyond size n (sym e))

pub returns : goal.returns
returns c = c.ok_or.ensures.value ∙ told c.args.vtl2_size c.args.numa_node_count c.ram_per_node.result c.ram_per_node.ensures
