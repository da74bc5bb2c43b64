-- `read::read_entries` meets its contract: a turn stores the entry of the next row, or the row stands for none.
use Rattle.std.proofs.Common.{inl, inr, ℕ, ◌≡◌, ◌-◌, suc, List, [], ◌∷◌, ◌++◌, refl, ap, ◌∙◌, length, take, drop, arith, length-drop, take_all}
use Rattle.std.proofs.lemmas.List.{length-append}
use Rattle.table_words.specs.Rows.{rows}
use Rattle.table_words.specs.Table.{entry_of}
use Rattle.table_words.specs.Laws.Rows.{length-rows, row_before}
use Rattle.table_words.specs.Laws.Stores.{stores_more, stores-end}
use Rattle.table_words.specs.Laws.Table.{no_entries, entry-good, entry-bad, read-bad, read_done}
use Rattle.table_words.proofs.read.read_entries.Goals as goal

next : (n k : ℕ) (r ws rest : List ℕ) → n ≡ suc k → ws ≡ r ++ rest → length r ≡ 4 → rows 4 n ws ≡ r ∷ rows 4 k rest
next n k r ws rest e f g = rw (e, f) (row_before 4 k r rest g)

pub loop-i-init : goal.loop-i-init
unfolding no_entries
loop-i-init c =
    let chunks = c.chunks_exact.ensures in
    let items = c.zip-i-items.ensures in
    let ws = c.args.words.now in
    let behind : take (length ws - 2) (drop 2 ws) ≡ drop 2 ws = take_all (length ws - 2) (drop 2 ws) (omega (arith, length-drop 2 ws)) in
    let whole : c.args.count - 0 ≡ c.args.count = omega arith in
    rw (c.into_iter-i-iterator.ensures.into_iter_gives, items.first, items.second, chunks.rest, chunks.size, c.new-manager.ensures, behind, whole)
    (record { width = refl; end = refl; within = omega arith; enough = omega (arith, length-drop 2 ws); good = refl; entries_left = record { all = refl } })

pub loop-i-preserved : goal.loop-i-preserved
loop-i-preserved c =
    let count = c.args.count in
    let l = c.loop-i in
    let p = l.i-iterator in
    let q = c.next.new.self in
    let r = c.in-Some.row.now in
    let step = c.in-Some.ensures.steps in
    let w = l.invariant.width in
    let n = next (count - p.a.start) (count - q.a.start) r p.b.rest.now q.b.rest.now (omega arith) step.1.1.0 (step.1.1.1 ∙ w) in
    let e = entry-good r c.in_ok-manager.ensures in
    let s = rw n at l.invariant.entries_left in
    let k : c.in-Some.i ≡ p.a.start = omega arith in
    record {
      width = step.1.0 ∙ w;
      end = omega arith;
      within = omega arith;
      enough = omega (arith, ap length step.1.1.0, length-append r q.b.rest.now);
      good = l.invariant.good ∙ rw (n, e.0);
      entries_left = stores_more (entry_of r ∷ []) _ (rw (k, e.1)) (omega arith) s;
    }

pub returns-in_err-manager : goal.returns-in_err-manager
returns-in_err-manager c =
    let a = c.args in
    let p = c.loop-i.i-iterator in
    let q = c.next.new.self in
    let r = c.in-Some.row.now in
    let step = c.in-Some.ensures.steps in
    let n = next (a.count - p.a.start) (a.count - q.a.start) r p.b.rest.now q.b.rest.now (omega arith) step.1.1.0 (step.1.1.1 ∙ c.loop-i.invariant.width) in
    c.from_residual.ensures
    ∙ read-bad (rows 4 a.count (drop 2 a.words.now)) a.flag (c.loop-i.invariant.good ∙ rw (n, entry-bad r c.in_err-manager.ensures))

pub returns : goal.returns
returns c =
    let a = c.args in
    let l = c.loop-i in
    let w = l.invariant.width in
    let none : a.count - l.i-iterator.a.start ≡ 0 =
    elim c.in-None.ensures.steps [
      | inl w ↦ omega arith
      | inr w ↦ omega arith
    ]
    in
    let good = rw none at l.invariant.good in
    let all = rw none at l.invariant.entries_left in
    read_done (rows 4 a.count (drop 2 a.words.now)) a.count a.flag (length-rows 4 a.count (drop 2 a.words.now)) c.requires.1 good (stores-end refl all)
