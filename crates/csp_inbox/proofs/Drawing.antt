-- Items that the opening pass takes out, one after another.
use Rattle.std.proofs.Common.{◌≡◌, ℕ, ◌+◌, ◌≤◌, List, [], ◌∷◌, ◌++◌, length, map, sym, ap, ◌∙◌, subst, arith, append_assoc, length-append}
use Rattle.std.proofs.lemmas.List.{map-append, append-nil}
use Rattle.std.proofs.lemmas.List.Elements.{All-nil, All-push}
use lib.ListN.{length-map}
use Rattle.csp_inbox.specs.Passes.{IsFor, mail, with_got}
use Rattle.csp_inbox.specs.Sorts.{hand, Gets, Accounts, IsAllIn, Takes, Drains}
use Rattle.csp_inbox.specs.declared.hand.Hand.{Hand}
use Rattle.csp_inbox.proofs.Marks.{same_length}
use Rattle.csp_log.specs.Pictures.{shown_item}
use Rattle.csp_log.specs.declared.item.Item.{Item}
use Rattle.csp_log.specs.declared.shown.ItemShown.{ItemShown}

abbrev with_more : Hand → List ItemShown → Hand
with_more v l = hand v.role v.prio (mail v.mail.kept l v.mail.known v.mail.known_got v.mail.puts_floor)

-- none at first
pub takes_none : (v w : Hand) (items : List Item) → w ≡ v → Takes v w items items
takes_none v w items same = record {
  taken = [];
  got = same ∙ ap (with_more v) (sym (append-nil v.mail.got));
  appended = sym (append-nil items);
  carried = All-nil _;
}

-- one more
pub takes_one : (v w u : Hand) (i : Item) (before after more : List Item) → Takes v w before after → Gets w i u → more ≡ after ++ i ∷ [] → Takes v u before more
takes_one v w u i before after more t g pushed =
    let one : ItemShown = shown_item i in
    record {
      taken = t.taken ++ i ∷ [];
      got = g.got ∙ ap (λ (x : Hand). hand x.role x.prio (with_got x.mail one)) t.got
          ∙ ap (with_more v) (append_assoc v.mail.got (map shown_item t.taken) (one ∷ []) ∙ ap (λ l. v.mail.got ++ l) (sym (map-append shown_item t.taken (i ∷ []))));
      appended = pushed ∙ ap (λ l. l ++ i ∷ []) t.appended ∙ append_assoc before t.taken (i ∷ []);
      carried = All-push (IsFor v.role.token.name v.prio) t.taken i t.carried (subst (λ (x : Hand). IsFor x.role.token.name x.prio i) t.got g.carried);
    }

-- it has got one more
pub got_one : (w u : Hand) (i : Item) → Gets w i u → length u.mail.got ≡ length w.mail.got + 1
got_one w u i g = ap (λ (x : Hand). length x.mail.got) g.got ∙ length-append w.mail.got (shown_item i ∷ [])

-- it is the opening pass still, with all marks at home
pub still_in : (v w : Hand) (before after : List Item) → Takes v w before after → IsAllIn v → IsAllIn w
still_in v w before after t h = record { reads = ap (λ (x : Hand). x.role.reads) t.got ∙ h.reads; home = ap (λ (x : Hand). x.role.out) t.got ∙ h.home }

-- and has kept what it had
pub same_kept : (v w : Hand) (before after : List Item) → Takes v w before after → length w.mail.kept ≡ length v.mail.kept
same_kept v w before after t = ap (λ (x : Hand). length x.mail.kept) t.got

-- what is accounted for, in numbers
pub counts : (v : Hand) (items : List Item) → Accounts v items → length v.mail.kept ≡ length v.mail.got + length items
counts v items a = same_length v.mail.kept (v.mail.got ++ map shown_item items) a.sorted ∙ length-append v.mail.got (map shown_item items) ∙ ap (λ n. length v.mail.got + n) (length-map items shown_item)

-- where as many were got as were kept, nothing is left
pub settled : (v : Hand) (items : List Item) → Accounts v items → length v.mail.kept ≡ length v.mail.got → Accounts v []
settled v [] a same = a
settled v (x ∷ xs) a same = absurd (omega (arith, counts v (x ∷ xs) a, same))

-- after n items, which were all
pub drained : (room n : ℕ) (v w u : Hand) (before after items : List Item) → Takes v w before after → u ≡ w → Accounts w items → length w.mail.got ≡ length v.mail.got + n → length v.mail.kept ≡ length v.mail.got + n
    → n ≤ room → Drains room v u before after
drained room n v w u before after items t same acc got all few =
    let long : length w.mail.got ≡ length v.mail.got + length t.taken =
    ap (λ (x : Hand). length x.mail.got) t.got ∙ length-append v.mail.got (map shown_item t.taken) ∙ ap (λ k. length v.mail.got + k) (length-map t.taken shown_item) in
    record {
      takes = record { taken = t.taken; got = same ∙ t.got; appended = t.appended; carried = t.carried };
      all = subst (λ (x : Hand). Accounts x []) (sym same) (settled w items acc (omega (arith, same_kept v w before after t, got, all)));
      few = omega (arith, long, got, few);
    }
