-- The lines of connections, said otherwise.
use Rattle.std.proofs.Common.{◌≡◌, ℕ, eqb, cond, List, [], ◌∷◌, ◌++◌, refl, ap, ◌∙◌}
use Rattle.std.specs.List.{flat_map}
use Rattle.csp_scene.specs.Scene.{PlainNode}
use Rattle.csp_record.specs.declared.connections.Opening.{Opening}
use Rattle.csp_report.specs.Blobs.{collected_lines}
use Rattle.csp_report.specs.Lines.{Line}
use Rattle.csp_report.specs.Conns.{Traffics, opening_line, payload_lines, opening_lines, slot_lines}
use Rattle.std.specs.Prelude.{codes}

module _ (nodes : List PlainNode) (node app : List ℕ) (a b : Traffics) (sent_same : (slot ordinal : ℕ) → a.sent_on slot ordinal ≡ b.sent_on slot ordinal) (took_same : (slot ordinal : ℕ) → a.took_on slot ordinal ≡ b.took_on slot ordinal) (collected_same : (slot ordinal : ℕ) → collected_lines node app slot ordinal a.told ≡ collected_lines node app slot ordinal b.told) where
  same_opening : (o : Opening) → opening_lines nodes node app a o ≡ opening_lines nodes node app b o
  same_opening o =
      ap (λ (sent : List (List ℕ)). opening_line nodes node app o ∷ payload_lines (codes "sent") node app o.slot o.ordinal sent ++ payload_lines (codes "took") node app o.slot o.ordinal (a.took_on o.slot o.ordinal) ++ collected_lines node app o.slot o.ordinal a.told) (sent_same o.slot o.ordinal)
      ∙ ap (λ (took : List (List ℕ)). opening_line nodes node app o ∷ payload_lines (codes "sent") node app o.slot o.ordinal (b.sent_on o.slot o.ordinal) ++ payload_lines (codes "took") node app o.slot o.ordinal took ++ collected_lines node app o.slot o.ordinal a.told) (took_same o.slot o.ordinal)
      ∙ ap (λ (collected : List Line). opening_line nodes node app o ∷ payload_lines (codes "sent") node app o.slot o.ordinal (b.sent_on o.slot o.ordinal) ++ payload_lines (codes "took") node app o.slot o.ordinal (b.took_on o.slot o.ordinal) ++ collected) (collected_same o.slot o.ordinal)

  same_slot : (opened : List Opening) (slot : ℕ) → slot_lines nodes node app a opened slot ≡ slot_lines nodes node app b opened slot
  same_slot [] slot = refl
  same_slot (o ∷ opened) slot =
      ap (λ (lines : List Line). cond (eqb o.slot slot) lines [] ++ slot_lines nodes node app a opened slot) (same_opening o)
      ∙ ap (λ (lines : List Line). cond (eqb o.slot slot) (opening_lines nodes node app b o) [] ++ lines) (same_slot opened slot)

  -- what went each way is told alike, connection by connection, so the lines are the same
  pub same_slots : (opened : List Opening) (slots : List ℕ) → flat_map (slot_lines nodes node app a opened) slots ≡ flat_map (slot_lines nodes node app b opened) slots
  same_slots opened [] = refl
  same_slots opened (slot ∷ slots) =
      ap (λ (lines : List Line). lines ++ flat_map (slot_lines nodes node app a opened) slots) (same_slot opened slot)
      ∙ ap (λ (lines : List Line). slot_lines nodes node app b opened slot ++ lines) (same_slots opened slots)
