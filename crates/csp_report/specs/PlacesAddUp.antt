-- In a text, each line of a node or a bridge has six places that add up to its number of buffers.
use Rattle.std.specs.Prelude.{ℕ, ◌≡◌, ◌+◌, ◌==◌, ◌||◌, Bool, Option, List, nat_eq, codes, IsTrue}
use Rattle.std.specs.List.{slice_split, starts_with, join_with_byte, AllByRecursion}
use Rattle.csp_text.specs.Names.{is_name}
use Rattle.csp_report.specs.Report.{node_words}
use Rattle.csp_report.specs.declared.places.PlaceKind.{PlaceKind}
use Rattle.csp_report.specs.declared.places.PlaceKind.TheVariants as kind

-- a line of the form `node NAME ADDR buffers N free F inbox I lane L router R iface X app A`, or without ADDR and with
-- `bridge` first; with single spaces between the words, a name, and numbers in decimal digits, in which F, I, L, R, X
-- and A, which are what its places held, together are N
pub record AddsUp (line : List ℕ) : Type 0 where
  pub name : List ℕ
  pub addr : Option ℕ
  pub buffers : ℕ
  pub held : PlaceKind → ℕ
  pub is_named : IsTrue (is_name name)
  pub form : line ≡ join_with_byte 32 (node_words name addr buffers held)
  pub sum : held kind.Pool + held kind.Inbox + held kind.Lane + held kind.Router + held kind.Iface + held kind.App ≡ buffers

-- a line that begins as that of a node or a bridge does
abbrev pub is_of_node : List ℕ → Bool
is_of_node line = starts_with nat_eq line (codes "node ") || starts_with nat_eq line (codes "bridge ")

-- each such line that the text's line feeds determine adds up
abbrev pub PlacesAddUp : List ℕ → Type 0
PlacesAddUp text = AllByRecursion (λ line. IsTrue (is_of_node line) → AddsUp line) (slice_split (λ b. b == 10) text)
