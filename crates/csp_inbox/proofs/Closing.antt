-- What a close finds, from what was drawn from each queue.
use Rattle.std.proofs.Common.{◌≡◌, ℕ, ◌+◌, List, [], ◌++◌, length, map, All, ap, ◌∙◌, subst, append_assoc, length-append}
use Rattle.std.proofs.lemmas.List.{append-nil}
use lib.ListN.{length-map}
use Rattle.csp_base.specs.declared.priority.Prio.{Prio}
use Rattle.csp_base.specs.declared.priority.Prio.TheVariants.{Critical, High, Normal, Low}
use Rattle.csp_inbox.specs.Marks.{with_mark}
use Rattle.csp_inbox.specs.Passes.{PlainPass, IsFor, mail, mail_at, Closes, ClosesOne}
use Rattle.csp_inbox.specs.Sorts.{hand, Accounts, Drains}
use Rattle.csp_inbox.specs.declared.hand.Hand.{Hand}
use Rattle.csp_inbox.specs.declared.hand.Mail.{Mail}
use Rattle.csp_inbox.specs.declared.hand.Role.{Role}
use Rattle.csp_inbox.proofs.Marks.{same_length}
use Rattle.csp_log.specs.Pictures.{shown_item}
use Rattle.csp_log.specs.declared.item.Item.{Item}
use Rattle.csp_log.specs.declared.shown.ItemShown.{ItemShown}

pub closes_one : (role : Role) (prio : Prio) (m : Mail) (room : ℕ) (v w : Hand) (before after : List Item) → v ≡ hand role prio m → (d : Drains room v w before after) → ClosesOne role.token.name room prio m d.takes.taken
closes_one role prio m room v w before after is d =
    let left : List Item = d.takes.taken in
    let got : List ItemShown = m.got ++ map shown_item left in
    let end : Hand = hand role prio (mail m.kept got m.known m.known_got m.puts_floor) in
    let ends : w ≡ end = d.takes.got ∙ ap (λ (x : Hand). hand x.role x.prio (mail x.mail.kept (x.mail.got ++ map shown_item left) x.mail.known x.mail.known_got x.mail.puts_floor)) is in
    let known : Accounts end [] = subst (λ (x : Hand). Accounts x []) ends d.all in
    let sorted : (k : ℕ) → with_mark k m.kept ≡ with_mark k got = λ k. known.sorted k ∙ ap (with_mark k) (append-nil got) in
    record {
      sorted = sorted;
      counted = same_length m.kept got sorted ∙ length-append m.got (map shown_item left) ∙ ap (λ n. length m.got + n) (length-map left shown_item);
      reached = known.reached;
      carried = subst (λ (x : Hand). All (IsFor x.role.token.name x.prio) left) is d.takes.carried;
      few = d.few;
    }

abbrev left_of : (a b c d : List Item) → Prio → List Item
left_of a b c d Critical = a
left_of a b c d High = b
left_of a b c d Normal = c
left_of a b c d Low = d

each_of : (p : PlainPass) (a b c d : List Item) → ClosesOne p.role.token.name p.role.room Critical p.critical a → ClosesOne p.role.token.name p.role.room High p.high b
    → ClosesOne p.role.token.name p.role.room Normal p.normal c → ClosesOne p.role.token.name p.role.room Low p.low d
    → (prio : Prio) → ClosesOne p.role.token.name p.role.room prio (mail_at p prio) (left_of a b c d prio)
each_of p a b c d one two three four Critical = one
each_of p a b c d one two three four High = two
each_of p a b c d one two three four Normal = three
each_of p a b c d one two three four Low = four

in_row : (l0 l1 l2 l3 l4 a b c d : List Item) → l1 ≡ l0 ++ a → l2 ≡ l1 ++ b → l3 ≡ l2 ++ c → l4 ≡ l3 ++ d → l4 ≡ l0 ++ a ++ b ++ c ++ d
in_row l0 l1 l2 l3 l4 a b c d e1 e2 e3 e4 =
    e4 ∙ ap (λ l. l ++ d) (e3 ∙ ap (λ l. l ++ c) (e2 ∙ ap (λ l. l ++ b) e1)) ∙ simp append_assoc

pub closes : (p : PlainPass) (r1 r2 r3 r4 : ℕ) (v1 w1 v2 w2 v3 w3 v4 w4 : Hand) (l0 l1 l2 l3 l4 : List Item)
    → r1 ≡ p.role.room → r2 ≡ p.role.room → r3 ≡ p.role.room → r4 ≡ p.role.room
    → v1 ≡ hand p.role Critical p.critical → v2 ≡ hand p.role High p.high → v3 ≡ hand p.role Normal p.normal → v4 ≡ hand p.role Low p.low
    → Drains r1 v1 w1 l0 l1 → Drains r2 v2 w2 l1 l2 → Drains r3 v3 w3 l2 l3 → Drains r4 v4 w4 l3 l4 → Closes p l0 l4
closes p r1 r2 r3 r4 v1 w1 v2 w2 v3 w3 v4 w4 l0 l1 l2 l3 l4 e1 e2 e3 e4 i1 i2 i3 i4 c1 c2 c3 c4 =
    let d1 : Drains p.role.room v1 w1 l0 l1 = subst (λ (n : ℕ). Drains n v1 w1 l0 l1) e1 c1 in
    let d2 : Drains p.role.room v2 w2 l1 l2 = subst (λ (n : ℕ). Drains n v2 w2 l1 l2) e2 c2 in
    let d3 : Drains p.role.room v3 w3 l2 l3 = subst (λ (n : ℕ). Drains n v3 w3 l2 l3) e3 c3 in
    let d4 : Drains p.role.room v4 w4 l3 l4 = subst (λ (n : ℕ). Drains n v4 w4 l3 l4) e4 c4 in
    let a : List Item = d1.takes.taken in
    let b : List Item = d2.takes.taken in
    let c : List Item = d3.takes.taken in
    let d : List Item = d4.takes.taken in
    record {
      left = left_of a b c d;
      appended = in_row l0 l1 l2 l3 l4 a b c d d1.takes.appended d2.takes.appended d3.takes.appended d4.takes.appended;
      each = each_of p a b c d (closes_one p.role Critical p.critical p.role.room v1 w1 l0 l1 i1 d1) (closes_one p.role High p.high p.role.room v2 w2 l1 l2 i2 d2)
          (closes_one p.role Normal p.normal p.role.room v3 w3 l2 l3 i3 d3) (closes_one p.role Low p.low p.role.room v4 w4 l3 l4 i4 d4);
    }
