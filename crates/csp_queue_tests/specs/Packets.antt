-- what goes through the inbox of a test
use Rattle.std.specs.Prelude.{⊤}
use Rattle.csp_log.specs.declared.item.Item.{Item}
use Rattle.csp_log.specs.declared.item.Item.TheVariants as item

-- a packet
abbrev pub IsPacket : Item → Type 0
IsPacket (item.Packet _ _) = ⊤
IsPacket (item.Frame _) = ⊥
IsPacket (item.Note _) = ⊥
