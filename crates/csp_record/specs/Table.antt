-- the packets of transmissions by node, interface and serial
use Rattle.std.specs.Prelude.{◌≡◌, ℕ, Bool, Option}
use Rattle.std.specs.BTreeMap as tree
use Rattle.std.specs.BTreeMap.{BTreeMap}
use Rattle.std.specs.Option.{option_or, option_and_then}
use Rattle.std.specs.Ordering.{nat_cmp, ordering_then}
use Rattle.std.specs.declared.cmp.Ordering.{Ordering}
use Rattle.csp_base.specs.declared.traces.Origin.{Origin}
use Rattle.csp_buffer.specs.Content.{Content}
use Rattle.csp_record.specs.Passed.{differs}

-- keys in their order: by node, then interface, then serial
abbrev pub key_cmp : (ℕ × ℕ × ℕ) → (ℕ × ℕ × ℕ) → Ordering
key_cmp x y = ordering_then (ordering_then (nat_cmp x.0 y.0) (nat_cmp x.1 y.1)) (nat_cmp x.2 y.2)

-- a table's packet of this transmission
abbrev pub kept_packet : BTreeMap (ℕ × ℕ × ℕ) Content → ℕ → ℕ → ℕ → Option Content
kept_packet table node iface serial = tree.get key_cmp table (node, iface, serial)

-- a table keeps its packets, and has these of the transmissions of which it had none
abbrev pub Adds : BTreeMap (ℕ × ℕ × ℕ) Content → BTreeMap (ℕ × ℕ × ℕ) Content → (ℕ → ℕ → ℕ → Option Content) → Type 0
Adds old new more = (node iface serial : ℕ) → kept_packet new node iface serial ≡ option_or (kept_packet old node iface serial) (more node iface serial)

-- a table's packet of the transmission that an origin names
abbrev pub named_in : BTreeMap (ℕ × ℕ × ℕ) Content → Origin → Option Content
named_in table origin = kept_packet table origin.node origin.iface origin.serial

-- whether a packet differs from what a table has of its origin
abbrev pub is_unlike : BTreeMap (ℕ × ℕ × ℕ) Content → Content → Bool
is_unlike table packet = differs (option_and_then (named_in table) packet.trace.origin) packet
