-- Boundary k is the start of item k / 2 where k is even and its end where k is odd; past the last item
-- all are passed.
use Rattle.std.proofs.Common.{◌≡◌, ℕ, ◌<◌, arith, refl, sym, ap, ◌∙◌, map, List, length, get_or, Some, ltb-true, ltb-false}
use Rattle.std.proofs.lemmas.List.{length-map}
use Rattle.std.specs.Prelude.{slice_get, option_map}
use Rattle.std.proofs.lemmas.Option.{slice_get-map, slice_get_read}
use Rattle.range_lists.proofs.walk.Laws.{start-at, end-at, passed-at}
use Rattle.range_lists.proofs.walk.boundary_at.Goals as goal

-- the range of the item at an index
item : {X Y : Type 0} (f : X → Y) (xs : List X) (i : ℕ) (x : X) → i < length xs → x ≡ get_or xs i x → slice_get (map f xs) i ≡ Some (f x)
item f xs i x h e = slice_get-map f xs i ∙ ap (option_map f) (slice_get_read xs (length xs) i x refl h e)

pub returns-in_err-get : goal.returns-in_err-get
returns-in_err-get g c =
    let a = c.args in
    let h = ltb-false _ _ (sym c.in_err-get.ensures.lookup.0) in
    c.from_residual.ensures ∙ sym (passed-at (map g.R.HasRange.range_in a.list.now) a.k (omega (arith, h, length-map a.list.now g.R.HasRange.range_in)))

pub returns-then-k-eq0 : goal.returns-then-k-eq0
returns-then-k-eq0 g c =
    let a = c.args in
    let f = g.R.HasRange.range_in in
    let o = c.in_ok-get in
    let h = ltb-true _ _ (sym o.ensures.lookup.0) in
    rw (c.range-range.ensures) (sym (start-at (map f a.list.now) _ a.k _ (item f a.list.now _ _ h o.ensures.lookup.1) (omega arith)))

pub returns : goal.returns
returns g c =
    let a = c.args in
    let f = g.R.HasRange.range_in in
    let o = c.in_ok-get in
    let h = ltb-true _ _ (sym o.ensures.lookup.0) in
    rw (c.range-range.ensures) (sym (end-at (map f a.list.now) _ a.k _ (item f a.list.now _ _ h o.ensures.lookup.1) (omega arith)))
