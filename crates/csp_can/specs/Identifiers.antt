use Rattle.std.specs.Prelude.{ℕ, ◌+◌, ◌*◌, ◌/◌, ◌%◌, ◌^◌, ◌==◌, ◌&&◌, Bool, if◌then◌else◌}
use Rattle.csp_can.specs.declared.identifiers.Kind.{Kind}
use Rattle.csp_can.specs.declared.identifiers.Kind.TheVariants.{Begin, More}
use Rattle.csp_can.specs.declared.identifiers.Identifier.{Identifier}
use Rattle.csp_can.specs.declared.identifiers.Key.{Key}

-- the bit of a kind: 0 opens a packet, 1 goes on with it
abbrev pub kind_bit : Kind → ℕ
kind_bit Begin = 0
kind_bit More = 1

-- the kind that a bit stands for
abbrev pub kind_of : ℕ → Kind
kind_of bit = if bit == 0 then Begin else More

-- an identifier as a number: from the top 5 bits of source, 5 of destination, 1 of kind, 8 of remain, 10 of id
abbrev pub identifier_number : Identifier → ℕ
identifier_number i =
    i.source * 2 ^ 24 + i.dest * 2 ^ 19 + kind_bit i.kind * 2 ^ 18 + i.remain * 2 ^ 10 + i.id

-- the parts of a number of 29 bits
abbrev pub identifier_of : ℕ → Identifier
identifier_of n =
    record {
      source = n / 2 ^ 24;
      dest = n / 2 ^ 19 % 32;
      kind = kind_of (n / 2 ^ 18 % 2);
      remain = n / 2 ^ 10 % 256;
      id = n % 1024;
    }

-- the key of a packet: who sent it, to whom, and its number
abbrev pub key_of : Identifier → Key
key_of i = record { source = i.source; dest = i.dest; id = i.id }

-- two keys are one
abbrev pub same_key : Key → Key → Bool
same_key a b = a.source == b.source && a.dest == b.dest && a.id == b.id
