-- The lines of partitions, and of the numbers that belong to one. This project's own.
use Rattle.std.specs.Prelude.{ℕ, ◌+◌, ◌*◌, List, ◌++◌, take, drop, ℤ, codes}
use Rattle.std.specs.Fmt.{decimal, signed_decimal}
use Rattle.std.specs.List.{flat_map, range_with_len}
use Rattle.palp_print.specs.Texts.{behind_spaces, spaced, with_commas}

-- a partition with its number
abbrev pub part_text : ℕ → List ℕ → List ℕ
part_text number parts = codes "P:" ++ (decimal number ++ (codes " V:" ++ spaced decimal parts))

-- its Hodge numbers and its Euler number, behind it
abbrev pub hodge_text : List ℤ → ℤ → List ℕ
hodge_text numbers euler = codes " H:" ++ (with_commas signed_decimal numbers ++ (codes " [" ++ (signed_decimal euler ++ codes "]\n")))

-- the line of a partition, without these numbers and with them
abbrev pub partition : ℕ → List ℕ → List ℕ
partition number parts = part_text number parts ++ codes "\n"

abbrev pub partition_with : ℕ → List ℕ → List ℤ → ℤ → List ℕ
partition_with number parts numbers euler = part_text number parts ++ hodge_text numbers euler

-- a line for each p, of the numbers h(p, q) for q from 0 to k; in the list the numbers of a p stand together, by rising p, and k is width - 1
abbrev pub diamond_line : ℕ → List ℤ → ℕ → List ℕ
diamond_line width numbers p = codes "h" ++ (decimal p ++ (codes ":"
    ++ (behind_spaces signed_decimal (take width (drop (p * width) numbers)) ++ codes "\n")))

abbrev pub diamond : ℕ → List ℤ → List ℕ
diamond k numbers = flat_map (diamond_line (k + 1) numbers) (range_with_len 0 (k + 1))
