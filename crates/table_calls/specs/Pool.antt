-- The private pool's pieces as words (docs/SPEC.md, section 31).
use Rattle.std.specs.Prelude.{ℕ, ◌*◌, List, [], ◌∷◌, ◌++◌}
use Rattle.address_space.specs.declared.request.AllocatedRange.{AllocatedRange}
use Rattle.private_pool.specs.Pool.{max_pool_ranges}

-- the room that is asked for, in words: three for each piece
abbrev pub pieces_room : ℕ
pieces_room = 3 * max_pool_ranges

-- the words of pieces: start, end, node
abbrev pub piece_words : AllocatedRange → List ℕ
piece_words x = x.range.start ∷ x.range.end ∷ x.vnode ∷ []

abbrev pub pieces_words : List AllocatedRange → List ℕ
pieces_words [] = []
pieces_words (x ∷ xs) = piece_words x ++ pieces_words xs
