-- the header and the checksum of a packet of the node
use Rattle.std.specs.Prelude.{Bool, true, false}
use Rattle.csp_buffer.specs.Content.{Content}
use Rattle.csp_crc.specs.Crc.{checked}
use Rattle.csp_header.specs.Word.{word_of}
use Rattle.csp_header.specs.declared.word.Header.{Header}
use Rattle.csp_stack.specs.Readings.{is_checked}

-- a packet that is to have the checksum of its payload
abbrev pub protected : (is_checked : Bool) → Content → Content
protected true b = record b { payload = checked b.payload }
protected false b = b

-- a packet with this header, and with a checksum where the header's flags say so
abbrev pub headed : Header → Content → Content
headed h b = record (protected (is_checked h) b) { header = word_of h }
