-- The timeline of a run: a line for each thing that happened.
use Rattle.std.specs.Prelude.{ℕ, ◌-◌, Bool, if◌then◌else◌, List, [], ◌∷◌, ◌++◌, length, codes, replicate}
use Rattle.std.specs.Fmt.{decimal}
use Rattle.std.specs.List.{flat_map}
use Rattle.csp_happenings.specs.Happenings.{happenings}
use Rattle.csp_happenings.specs.declared.kinds.Happening.{Happening}
use Rattle.csp_happenings.specs.declared.kinds.Parcel.{Parcel}
use Rattle.csp_happenings.specs.declared.kinds.What.{What}
use Rattle.csp_happenings.specs.declared.kinds.What.TheVariants as what
use Rattle.csp_record.specs.Record.{PlainRecord}
use Rattle.csp_scene.specs.Scene.{PlainScene}
use Rattle.csp_timeline.specs.Labels.{app_name, from_end, label, place_of, to_end}
use Rattle.csp_timeline.specs.Words.{event_words, fate_words, frame_words, note_words, numbered, packet_words, sent_words, some_packet_words, word}
use Rattle.csp_timeline.specs.declared.text.TheConstants.{TIME_WIDTH, LABEL_WIDTH, VERSION}

-- a word, a space, and as many more as make the column so wide
abbrev pub column : (width : ℕ) → List ℕ → List ℕ
column width w = w ++ 32 ∷ replicate (width - length w) 32

-- a packet's transmission begins, or begins again
abbrev pub transmission_word : (again : Bool) → List ℕ
transmission_word again = if again then codes "retransmits" else codes "transmits"

-- a packet that an application takes from a slot
abbrev pub took_words : PlainScene → (mark : ℕ) → Parcel → List ℕ
took_words scene mark p = codes "takes" ++ (numbered (codes "slot") mark ++ packet_words scene p)

-- what happened, at a party of the node, or at the link, in this place
abbrev pub what_words : PlainScene → (place : ℕ) → What → List ℕ
what_words scene place (what.Asked n) = codes "asks" ++ note_words n
what_words scene place (what.Told n) = codes "told" ++ note_words n
what_words scene place (what.Sent mark p) = codes "sends" ++ sent_words scene mark p
what_words scene place (what.Took mark p) = took_words scene mark p
what_words scene place (what.Answered app n) = codes "tells" ++ (word (app_name scene place app) ++ note_words n)
what_words scene place (what.Transmitted serial again p) = transmission_word again ++ (word (decimal serial) ++ some_packet_words scene p)
what_words scene place (what.Accepted p) = codes "accepts" ++ packet_words scene p
what_words scene place (what.Carried end number fate f) = codes "carries" ++ (word (from_end scene place end) ++ (word (decimal number) ++ (fate_words fate ++ frame_words scene f)))
what_words scene place (what.HandedOn end f) = codes "hands on" ++ (word (to_end scene place end) ++ frame_words scene f)
what_words scene place (what.Reported e p) = event_words scene place e ++ some_packet_words scene p

-- a line: when, who, what
abbrev pub line : PlainScene → Happening → List ℕ
line scene h = column TIME_WIDTH (decimal h.time) ++ (column LABEL_WIDTH (label scene h.who) ++ (what_words scene (place_of h.who) h.what ++ 10 ∷ []))

-- the first line: a title, and the number of the form
abbrev pub first_line : (title : List ℕ) → (version : ℕ) → List ℕ
first_line title version = title ++ (word (decimal version) ++ 10 ∷ [])

-- the timeline
abbrev pub timeline : PlainScene → PlainRecord → List ℕ
timeline scene r = first_line (codes "csp-timeline") VERSION ++ flat_map (line scene) (happenings scene r)
