-- Wrong answers about what is written: on a small input the definition gives other bytes.
use Rattle.std.specs.Prelude.{refl, ◌≢◌, [], ◌∷◌, None}
use Rattle.std.proofs.Common.{sym}
use Rattle.std.proofs.lemmas.Option.{none-some}
use Rattle.memory_range.specs.Range.{range}
use Rattle.plan_fields.specs.Word.{ascii}
use Rattle.plan_fields.specs.Laws.Wrong.{differ}
use Rattle.host_params.specs.declared.MemoryVtlType.TheVariants.{Ram}
use Rattle.plan_output.specs.Number.{hex_of, decimal_of}
use Rattle.plan_output.specs.Put.{put_in, put_place}
use Rattle.plan_output.specs.Line.{range_line, ram_line, no_line, map_line}

-- a full buffer refused
pub full_buffer_refused : put_place 1 (ascii "ab") (0 ∷ 0 ∷ 0 ∷ []) ≢ None
unfolding put_place
full_buffer_refused e = none-some _ (sym e)

-- a byte written where there is no room
pub written-without_room : put_in 1 (ascii "ab") (0 ∷ 0 ∷ []) ≢ 0 ∷ 97 ∷ []
unfolding put_in
written-without_room = differ refl

-- a number at another place
pub number_elsewhere : put_in 0 (hex_of 0xab) (0 ∷ 0 ∷ 0 ∷ 0 ∷ []) ≢ 0 ∷ 0 ∷ 97 ∷ 98 ∷ []
unfolding put_in hex_of
number_elsewhere = differ refl

-- a number with a zero in front
pub number_padded : put_in 0 (hex_of 0xa) (0 ∷ 0 ∷ []) ≢ ascii "0a"
unfolding put_in hex_of
number_padded = differ refl

-- a zero in front of a node
pub node_padded : ram_line (range 0x200000 0x210000) 1 ≢ ascii "ram\t200000\t210000\t01\n"
unfolding range_line hex_of
node_padded = differ refl

-- no newline at the end
pub line-not_ended : map_line (range 0x200000 0x210000) Ram ≢ ascii "map\t200000\t210000\tram\t"
unfolding range_line hex_of
line-not_ended = differ refl

-- the number in hexadecimal
pub number_in_hexadecimal : no_line 25 ≢ ascii "no\t19\n"
unfolding no_line decimal_of
number_in_hexadecimal = differ refl
