-- `line::put_lines` meets its contract: there is room for one line more than came so far.
use Rattle.std.proofs.Common.{◌≡◌, ℕ, ◌+◌, List, [], ◌∷◌, ◌++◌, length, length-append, refl, rules, subst, sym, Some}
use Rattle.std.specs.Prelude.{Option}
use Rattle.std.specs.Iterator.{Yields, HoldsAlong}
use Rattle.plan.specs.declared.line.OutputLine.{OutputLine}
use Rattle.plan.specs.Line.{Room}
use Rattle.plan.specs.Laws.Write.{wrote_none, wrote_append, wrote_room}
use Rattle.plan.proofs.line.put_lines.Goals as goal

-- calls that gave items, and one more
yields_more : {S A : Type 0} (steps : S → Option A → S → Type 0) (s : S) (xs : List A) (t : S) (x : A) (u : S)
    → Yields steps s xs t → steps t (Some x) u → Yields steps s (xs ++ x ∷ []) u
yields_more steps s [] t x u e h = (u, subst (λ j. steps j (Some x) u) (sym e) h, refl)
yields_more steps s (y ∷ xs) t x u e h = (e.0, e.1, yields_more steps e.0 xs t x u e.2 h)

room_more : {S : Type 0} (steps : S → Option OutputLine → S → Type 0) (s r : S) (ls : List OutputLine) (t : S) (l : OutputLine) (u : S) (at : ℕ) (b : List ℕ)
    → HoldsAlong steps s (λ ls. Room (length ls) at b) → r ≡ s → Yields steps r ls t → steps t (Some l) u → Room (length ls + 1) at b
room_more steps s r ls t l u at b room e y h =
    simp length-append at (room (ls ++ l ∷ []) u (yields_more steps s ls t l u (subst (λ j. Yields steps j ls t) e y) h))

pub loop-line-init : goal.loop-line-init
loop-line-init g c = (search rules, search rules, wrote_none _ _)

pub put_line-next-requires : goal.put_line-next-requires
put_line-next-requires g c =
    let more = room_more g.I.Iterator.next_gives _ _ _ _ _ _ _ _ c.requires.room c.into_iter-line-iterator.ensures.into_iter_gives c.loop-line.yielded_by c.in-Some.ensures.steps in
    wrote_room 1 c.loop-line.invariant.2 more

pub loop-line-preserved : goal.loop-line-preserved
loop-line-preserved g c =
    let more = room_more g.I.Iterator.next_gives _ _ _ _ _ _ _ _ c.requires.room c.into_iter-line-iterator.ensures.into_iter_gives c.loop-line.yielded_by c.in-Some.ensures.steps in
    (search rules, search rules, wrote_append c.loop-line.invariant.2 c.put_line-next.ensures more)

pub returns : goal.returns
returns g c =
    let all = subst (λ s. Yields g.I.Iterator.next_gives s c.loop-line.yielded c.loop-line.line-iterator) c.into_iter-line-iterator.ensures.into_iter_gives c.loop-line.yielded_by in
    (c.loop-line.yielded, (_, (_, all, c.in-None.ensures.steps)), c.loop-line.invariant.2)
