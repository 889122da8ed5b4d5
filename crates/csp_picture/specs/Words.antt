-- The words beside a frame: on which link, of what packet, and with what fate.
use Rattle.std.specs.Prelude.{ℕ, nat_lt, if◌then◌else◌, Bool, true, false, Option, Some, None, List, [], ◌∷◌, ◌++◌, codes}
use Rattle.std.specs.Fmt.{decimal}
use Rattle.csp_base.specs.declared.traces.Tag.{Tag}
use Rattle.csp_happenings.specs.declared.kinds.Kind.{Kind}
use Rattle.csp_happenings.specs.declared.kinds.Kind.TheVariants as kind
use Rattle.csp_happenings.specs.declared.kinds.Parcel.{Parcel}
use Rattle.csp_header.specs.Word.{header_at}
use Rattle.csp_header.specs.declared.word.Header.{Header}
use Rattle.csp_link.specs.declared.fates.Fate.{Fate}
use Rattle.csp_picture.specs.declared.seen.Sent.{Sent}

-- a word with a space before it
abbrev pub spaced : List ℕ → List ℕ
spaced word = 32 ∷ word

-- a word and the number that belongs to it
abbrev pub word_and_number : List ℕ → ℕ → List ℕ
word_and_number word number = spaced word ++ spaced (decimal number)

-- ` SPORT>DPORT`
abbrev pub port_words : Header → List ℕ
port_words h = spaced (decimal h.sport) ++ (codes ">" ++ decimal h.dport)

-- ` WORD NTH:INDEX`: the number of a flow at its node, and an index in it
abbrev pub flow_words : List ℕ → (nth index : ℕ) → List ℕ
flow_words word nth index = word_and_number word nth ++ (codes ":" ++ decimal index)

-- what a packet is to its flow: of what opens, resets or has data its own index, of an acknowledgement the one that it acknowledges
abbrev pub kind_words : Kind → Tag → List ℕ
kind_words kind.Syn tag = flow_words (codes "syn") tag.nth tag.index
kind_words kind.Rst tag = flow_words (codes "rst") tag.nth tag.index
kind_words kind.Eak tag = flow_words (codes "eak") tag.nth tag.ack
kind_words kind.Ack tag = flow_words (codes "ack") tag.nth tag.ack
kind_words kind.Data tag = flow_words (codes "data") tag.nth tag.index
kind_words kind.Short tag = flow_words (codes "short") tag.nth tag.index

-- what a packet without a flow is: so many bytes
abbrev pub part_words : Parcel → Option Tag → List ℕ
part_words p None = word_and_number (codes "bytes") p.len
part_words p (Some tag) = kind_words p.kind tag

-- a packet: its ports, and what it is
abbrev pub parcel_words : Parcel → List ℕ
parcel_words p = port_words (header_at p.header) ++ part_words p p.trace.tag

-- ` again`, where a packet is transmitted again
abbrev pub again_words : Bool → List ℕ
again_words true = spaced (codes "again")
again_words false = []

-- what was transmitted, where that is known
abbrev pub packet_words : Option Parcel → List ℕ
packet_words None = []
packet_words (Some p) = parcel_words p

-- and whether it was again
abbrev pub sent_words : Option Sent → List ℕ
sent_words None = []
sent_words (Some sent) = packet_words sent.packet ++ again_words sent.again

-- ` WORD N`, unless N is 0
abbrev pub some_words : List ℕ → ℕ → List ℕ
some_words word number = if nat_lt 0 number then word_and_number word number else []

-- ` flipped BIT`
abbrev pub flip_words : Option ℕ → List ℕ
flip_words None = []
flip_words (Some bit) = word_and_number (codes "flipped") bit

-- what a plan does to a frame: where it is lost nothing else
abbrev pub fate_words : Fate → List ℕ
fate_words fate = if fate.lost then spaced (codes "lost") else some_words (codes "repeated") fate.repeats ++ (some_words (codes "delayed") fate.delay ++ flip_words fate.flip)
