-- The run of an interface on a KISS link: what it put there are the frames of the packets that it sent.
use Rattle.std.proofs.Common.{◌≡◌, ℕ, ◌≤◌, Bool, Option, Some, None, List, [], ◌∷◌, ◌++◌, length, refl, sym, ap, ◌∙◌, subst, append_assoc, append-nil, arith}
use Rattle.std.proofs.lemmas.List.Concat.{flat_map-cons}
use Rattle.std.proofs.lemmas.Grind.{flat_map-append}
use Rattle.std.specs.Prelude.{if◌then◌else◌}
use Rattle.std.specs.List.{AllByRecursion, flat_map, list_any}
use Rattle.csp_consistent.proofs.Public.{waiting, told}
use Rattle.csp_deck.specs.Runs.{IsRun, IsStep}
use Rattle.csp_exports.specs.Frames.{put_on, written_of, written_for}
use Rattle.csp_exports.specs.Unused.{is_transmission}
use Rattle.csp_exports.specs.declared.ends.Form.TheVariants as form
use Rattle.csp_iface.specs.Asking.{asked, op_of}
use Rattle.csp_iface.specs.PlainIface.{PlainIface}
use Rattle.csp_iface.specs.Planning.{plan_of}
use Rattle.csp_iface.specs.Telling.{after_answer, tells, bad, concluded}
use Rattle.csp_kiss.specs.declared.progress.KissPacket.{KissPacket}
use Rattle.csp_log.specs.Moving.{moved_by}
use Rattle.csp_log.specs.declared.entry.Entry.{Entry}
use Rattle.csp_log.specs.declared.frame.Frame.{Frame}
use Rattle.csp_log.specs.declared.places.LinkKind.{LinkKind}
use Rattle.csp_party.specs.Any.{an_iface}
use Rattle.csp_record.specs.Transmissions.{fetched}
use Rattle.csp_scene.proofs.Public.{AllByRecursion-append}
use Rattle.csp_topology.specs.Parties.{iface_opening, party_steps}
use Rattle.csp_reread.specs.Reread.{covers, read_of, begun_by, sent_in}
use Rattle.csp_reread.proofs.Steady.{IsOn, step_on}
use Rattle.csp_reread.proofs.Streams.{frame_bytes}
use Rattle.csp_reread.proofs.Turns.{AreOf, Fit, Turned, made_by, put_by, turn, turn_fits}

-- what an entry shows is what its turn put and made
module _ (name : List ℕ) (s : PlainIface) (e : Entry) (step : IsStep party_steps (an_iface s) e) where
  abbrev refused : ℕ
  refused = (concluded (asked s e.time) e.time e.answer).refused

  wrote : written_for form.Kiss name e ≡ put_by (op_of s (plan_of s)) e.answer
  wrote = ap (λ o. written_of form.Kiss name e.time (put_on o e.answer)) step.op ∙ same (put_on (op_of s (plan_of s)) e.answer)
    where
      same : (f : Option Frame) → written_of form.Kiss name e.time f ≡ written_of form.Kiss [] 0 f
      same None = refl
      same (Some f) = refl

  made : read_of (begun_by e) ≡ made_by ((after_answer (waiting s (plan_of s)) e.time (plan_of s) e.answer).events ++ bad refused) (op_of s (plan_of s)) e.answer
  made = λ i. read_of (if list_any is_transmission (step.events i) then fetched (moved_by (step.op i) e.answer) else None)

-- a run: what was waiting and what it began is what it showed and what is waiting then
pub record Ran (cover : Bool) (mtu : ℕ) (rest made : List KissPacket) (put : List ℕ) : Type 0 where
  pub shown : List KissPacket
  pub left : List KissPacket
  pub whole : rest ++ made ≡ shown ++ left
  pub bytes : put ≡ flat_map (frame_bytes cover) shown
  pub few : length left ≤ 1
  pub fits : AllByRecursion (Fit mtu) made

at_most_one : (cover : Bool) (fs : List Frame) (rest : List KissPacket) → AreOf cover fs rest → length rest ≤ 1
at_most_one cover [] [] h = omega arith
at_most_one cover [] (p ∷ ps) h = absurd h
at_most_one cover (f ∷ fs) [] h = omega arith
at_most_one cover (f ∷ []) (p ∷ []) h = omega arith
at_most_one cover (f ∷ []) (p ∷ q ∷ ps) h = absurd h
at_most_one cover (f ∷ g ∷ fs) (p ∷ ps) h = absurd h

-- one turn more, before the others
joined : (cover : Bool) (mtu : ℕ) (rest made more : List KissPacket) (put later : List ℕ) (frames : List Frame) (t : Turned cover rest made put frames) → AllByRecursion (Fit mtu) made
    → Ran cover mtu t.left more later → Ran cover mtu rest (made ++ more) (put ++ later)
joined cover mtu rest made more put later frames t fits r = record {
  shown = t.shown ++ r.shown;
  left = r.left;
  whole = sym (append_assoc rest made more) ∙ ap (λ ps. ps ++ more) t.whole ∙ append_assoc t.shown t.left more ∙ ap (λ ps. t.shown ++ ps) r.whole ∙ sym (append_assoc t.shown r.shown r.left);
  bytes = ap (λ bs. bs ++ later) t.bytes ∙ ap (λ bs. flat_map (frame_bytes cover) t.shown ++ bs) r.bytes ∙ sym (flat_map-append (frame_bytes cover) t.shown r.shown);
  few = r.few;
  fits = AllByRecursion-append (Fit mtu) made more fits r.fits;
}

run : (cover : Bool) (kind : LinkKind) (mtu : ℕ) (name : List ℕ) (es : List Entry) (time : ℕ) (s : PlainIface) (rest : List KissPacket) → covers kind ≡ Some cover → IsRun party_steps time (an_iface s) es → IsOn kind mtu s → AreOf cover s.frames rest
    → Ran cover mtu rest (sent_in es) (flat_map (written_for form.Kiss name) es)
run cover kind mtu name [] time s rest covered runs on h = record { shown = []; left = rest; whole = append-nil rest; bytes = refl; few = at_most_one cover s.frames rest h; fits = tt }
run cover kind mtu name (e ∷ es) time s rest covered runs on h =
    let k : ℕ = (concluded (asked s e.time) e.time e.answer).refused in
    let one : Turned cover rest (made_by ((after_answer (waiting s (plan_of s)) e.time (plan_of s) e.answer).events ++ bad k) (op_of s (plan_of s)) e.answer) (put_by (op_of s (plan_of s)) e.answer) (told s e.time (plan_of s) e.answer).frames =
    turn cover s e.time k rest e.answer (ap covers on.0 ∙ covered) runs.1.fits h in
    let after : Ran cover mtu one.left (sent_in es) (flat_map (written_for form.Kiss name) es) =
    run cover kind mtu name es e.time (tells (asked s e.time) e.time e.answer) one.left covered runs.2 (step_on kind mtu s e.time e.answer on) one.pending in
    let fits : AllByRecursion (Fit mtu) (made_by ((after_answer (waiting s (plan_of s)) e.time (plan_of s) e.answer).events ++ bad k) (op_of s (plan_of s)) e.answer) =
    subst (λ m. AllByRecursion (Fit m) (made_by ((after_answer (waiting s (plan_of s)) e.time (plan_of s) e.answer).events ++ bad k) (op_of s (plan_of s)) e.answer)) on.1 (turn_fits s e.time k e.answer) in
    let all : Ran cover mtu rest (read_of (begun_by e) ++ sent_in es) (written_for form.Kiss name e ++ flat_map (written_for form.Kiss name) es) =
    subst (λ ps. Ran cover mtu rest (ps ++ sent_in es) (written_for form.Kiss name e ++ flat_map (written_for form.Kiss name) es)) (sym (made name s e runs.1))
    (subst (λ bs. Ran cover mtu rest (made_by ((after_answer (waiting s (plan_of s)) e.time (plan_of s) e.answer).events ++ bad k) (op_of s (plan_of s)) e.answer ++ sent_in es) (bs ++ flat_map (written_for form.Kiss name) es)) (sym (wrote name s e runs.1))
    (joined cover mtu rest _ (sent_in es) _ _ _ one fits after)) in
    subst (λ ps. Ran cover mtu rest ps (flat_map (written_for form.Kiss name) (e ∷ es))) (sym (flat_map-cons (λ (x : Entry). read_of (begun_by x)) e es))
    (subst (λ bs. Ran cover mtu rest (read_of (begun_by e) ++ sent_in es) bs) (sym (flat_map-cons (written_for form.Kiss name) e es)) all)

-- the run of an interface from its opening
pub ran : (cover : Bool) (kind : LinkKind) (mtu node number : ℕ) (heeds : Option ℕ) (name : List ℕ) (es : List Entry) → covers kind ≡ Some cover → IsRun party_steps 0 (an_iface (iface_opening node number kind mtu heeds)) es
    → Ran cover mtu [] (sent_in es) (flat_map (written_for form.Kiss name) es)
ran cover kind mtu node number heeds name es covered runs = run cover kind mtu name es 0 (iface_opening node number kind mtu heeds) [] covered runs (refl, refl) tt
