-- the header as a number of 32 bits
use Rattle.std.specs.Prelude.{ℕ, ◌+◌, ◌*◌, ◌/◌, ◌%◌, ◌^◌, ◌<◌}
use Rattle.csp_base.specs.Priority.{prio_number, prio_of}
use Rattle.csp_header.specs.declared.word.Header.{Header}

-- the word of a header: priority 2 bits, source 5, destination 5, destination port 6, source port 6, flags 8, from the top
abbrev pub word_of : Header → ℕ
word_of h = prio_number h.prio * 2 ^ 30 + h.src * 2 ^ 25 + h.dst * 2 ^ 20 + h.dport * 2 ^ 14 + h.sport * 2 ^ 8 + h.flags.0

-- the header that a word is read as
abbrev pub header_at : ℕ → Header
header_at w = record {
  prio = prio_of (w / 2 ^ 30);
  src = w / 2 ^ 25 % 32;
  dst = w / 2 ^ 20 % 32;
  dport = w / 2 ^ 14 % 64;
  sport = w / 2 ^ 8 % 64;
  flags = record { 0 = w % 256 };
}

-- each field is a number of its bits
pub record IsInRange (h : Header) : Type 0 where
  pub src : h.src < 32
  pub dst : h.dst < 32
  pub dport : h.dport < 64
  pub sport : h.sport < 64
  pub flags : h.flags.0 < 256
