-- What is added where a pass is alone, and to a slot's own entries.
use Rattle.std.proofs.Common.{◌≡◌, ℕ, ◌==◌, Bool, false, cond, List, [], ◌∷◌, ◌++◌, filter, map, refl, sym, ap, subst, ◌∙◌, append_assoc, append-nil}
use base.Growing.{prefix_trans}
use Rattle.std.proofs.lemmas.List.{append_cancel_left}
use Rattle.std.proofs.lemmas.List.Elements.{filter-append}
use Rattle.seize_machine.specs.Machine.State.{State}
use Rattle.seize_machine.specs.Machine.Next.{next}
use Rattle.seize_machine.specs.Machine.History.{done_by}
use Rattle.seize_machine.specs.declared.machine.event.Answer.{Answer}
use Rattle.seize_machine.specs.declared.machine.event.Answer.TheVariants.{Done}
use Rattle.seize_book.specs.Book.{after, mine, with_answers}
use Rattle.seize_book.specs.Entry.{Deed, Entry, Made, Used, deeds, maker, timed_deed}
use Rattle.seize_book.specs.Passes.{IsSamePass, LooksOn, events_by, events_in, mine_of}
use Rattle.seize_book.specs.Laws.{starts}
use Rattle.seize_book.specs.Slots.{AddsDeed, active_of, acts_of, slot_number, slot_of}
use Rattle.seize_book.specs.Tokens.{AddsEntry, IsSole, Name, start}
use Rattle.seize_book.specs.declared.book.pass.Pass.{Pass}
use Rattle.seize_book.specs.declared.book.slot_key.SlotKey.{SlotKey}
use Rattle.seize_book.proofs.Facts.{deeds_append, equal, same_twice}
use Rattle.seize_words.proofs.Facts.{life_kept, seen_grows}
use Rattle.seize_calls.specs.Alone.{AddsAlone, AddsOwn, AllBy, AllMadeBy, Onward}

abbrev pub alone_none : (pass : Pass) → AddsAlone pass pass
alone_none pass = λ sole. ([], sym (append-nil pass.seen), tt)

pub alone_looked : (pass pass' : Pass) → LooksOn pass pass' → AddsAlone pass pass'
alone_looked pass pass' looks = λ sole. ([], looks.alone sole ∙ sym (append-nil pass.seen), tt)

pub alone_noted : (pass pass' : Pass) (e : Entry) → maker e ≡ pass.id → AddsEntry pass.name pass.id pass.seen pass'.seen e → AddsAlone pass pass'
alone_noted pass pass' e by noted = λ sole. (e ∷ [], noted.appended ∙ ap (λ (log : List Entry). log ++ e ∷ []) (noted.alone sole), (by, tt))

all_append : (p : ℕ) (a b : List Entry) → AllBy p a → AllBy p b → AllBy p (a ++ b)
all_append p [] b one two = two
all_append p (e ∷ a) b one two = (one.0, all_append p a b one.1 two)

pub alone_twice : (one two three : Pass) → IsSamePass one two → AddsAlone one two → AddsAlone two three → AddsAlone one three
alone_twice one two three same first second = λ sole.
    let a = first sole in let b = second (subst IsSole (sym same.1) sole) in (
      a.0 ++ b.0,
      b.1 ∙ ap (λ (log : List Entry). log ++ b.0) a.1 ∙ append_assoc one.seen a.0 b.0,
      all_append one.id a.0 b.0 a.2 (subst (λ (p : ℕ). AllBy p b.0) same.1 b.2),
    )

-- Of the slot's own entries none was added, or this one, or some and then more.

abbrev pub own_none : (key : SlotKey) (pass : Pass) (key' : SlotKey) → acts_of key' ≡ acts_of key → AddsOwn key pass key'
own_none key pass key' same = ([], same ∙ sym (append-nil (acts_of key)), tt)

abbrev pub own_one : (key : SlotKey) (pass : Pass) (key' : SlotKey) (e : Entry) (answer : Answer) → maker e ≡ pass.id → acts_of key' ≡ acts_of key ++ (e, answer) ∷ [] → AddsOwn key pass key'
own_one key pass key' e answer by added = ((e, answer) ∷ [], added, (by, tt))

all_made_append : (p : ℕ) (a b : List (Entry × Answer)) → AllMadeBy p a → AllMadeBy p b → AllMadeBy p (a ++ b)
all_made_append p [] b one two = two
all_made_append p (e ∷ a) b one two = (one.0, all_made_append p a b one.1 two)

pub own_twice : (key one two : SlotKey) (pass pass1 : Pass) → IsSamePass pass pass1 → AddsOwn key pass one → AddsOwn one pass1 two → AddsOwn key pass two
own_twice key one two pass pass1 same a b = (
  a.0 ++ b.0,
  b.1 ∙ ap (λ (acts : List (Entry × Answer)). acts ++ b.0) a.1 ∙ append_assoc (acts_of key) a.0 b.0,
  all_made_append pass.id a.0 b.0 a.2 (subst (λ (p : ℕ). AllMadeBy p b.0) same.1 b.2),
)

-- What stays over the parts of a call: over none, a look, one event, and some parts and then more.

abbrev pub onward_none : (key : SlotKey) (pass : Pass) → Onward key pass key pass
onward_none key pass = record { same = (refl, refl, refl); its = (refl, refl); used = refl; active = refl; life = refl; grows = ([], append-nil pass.seen); alone = alone_none pass; own = own_none key pass key refl }

pub onward_looked : (key : SlotKey) (pass pass' : Pass) → LooksOn pass pass' → Onward key pass key pass'
onward_looked key pass pass' looks = record { same = looks.same; its = (refl, refl); used = refl; active = refl; life = refl; grows = looks.grows; alone = alone_looked pass pass' looks; own = own_none key pass key refl }

pub onward_event : (key key' : SlotKey) (pass pass' : Pass) (d : Deed) → AddsDeed key pass key' pass' d → d.pass ≡ pass.id → starts (slot_number key) d.event ≡ false → (slot_of key').used ≡ (slot_of key).used → active_of key' ≡ active_of key → Onward key pass key' pass'
onward_event key key' pass pass' d notes by none used active = record {
  same = notes.0;
  its = (notes.1.0, notes.1.1);
  used = used;
  active = active;
  life = life_kept key key' pass pass' d notes none;
  grows = seen_grows pass.name pass.id pass.seen pass'.seen _ notes.2.0;
  alone = alone_noted pass pass' (Made d) by notes.2.0;
  own = own_one key pass key' (Made d) notes.2.0.answer by notes.2.1.acts;
}

pub onward_twice : (key one two : SlotKey) (pass pass1 pass2 : Pass) → Onward key pass one pass1 → Onward one pass1 two pass2 → Onward key pass two pass2
onward_twice key one two pass pass1 pass2 first second = record {
  same = same_twice pass pass1 pass2 first.same second.same;
  its = (second.its.0 ∙ first.its.0, second.its.1 ∙ first.its.1);
  used = second.used ∙ first.used;
  active = second.active ∙ first.active;
  life = second.life ∙ first.life;
  grows = prefix_trans pass.seen pass1.seen pass2.seen first.grows second.grows;
  alone = alone_twice pass pass1 pass2 first.same first.alone second.alone;
  own = own_twice key one two pass pass1 first.same first.own second.own;
}

-- Then the list has the events that were made with the pass, in their order, and no others. This is for callers: by it they know the state.

pub answered_append : (st : State) (a b : List Entry) → with_answers st (a ++ b) ≡ with_answers st a ++ with_answers (after st a) b
answered_append st [] b = refl
answered_append st (Made d ∷ a) b = ap (λ (more : List (Entry × Answer)). (Made d, (done_by next st (timed_deed d)).1) ∷ more) (answered_append (done_by next st (timed_deed d)).0 a b)
answered_append st (Used u ∷ a) b = ap (λ (more : List (Entry × Answer)). (Used u, Done) ∷ more) (answered_append st a b)

all_mine : (st : State) (p : ℕ) (log : List Entry) → AllBy p log → filter (λ a. maker a.0 == p) (with_answers st log) ≡ with_answers st log
all_mine st p [] all = refl
all_mine st p (Made d ∷ log) all =
    let st1 = (done_by next st (timed_deed d)).0 in let more = filter (λ a. maker a.0 == p) (with_answers st1 log) in
    ap (λ (b : Bool). cond b ((Made d, (done_by next st (timed_deed d)).1) ∷ more) more) (equal d.pass p all.0)
    ∙ ap (λ (rest : List (Entry × Answer)). (Made d, (done_by next st (timed_deed d)).1) ∷ rest) (all_mine st1 p log all.1)
all_mine st p (Used u ∷ log) all =
    let more = filter (λ a. maker a.0 == p) (with_answers st log) in
    ap (λ (b : Bool). cond b ((Used u, Done) ∷ more) more) (equal u.pass p all.0) ∙ ap (λ (rest : List (Entry × Answer)). (Used u, Done) ∷ rest) (all_mine st p log all.1)

pub events_append : (a b : List (Entry × Answer)) → events_in (a ++ b) ≡ events_in a ++ events_in b
events_append [] b = refl
events_append ((Made d, answer) ∷ a) b = ap (λ (log : List (Deed × Answer)). (d, answer) ∷ log) (events_append a b)
events_append ((Used u, answer) ∷ a) b = events_append a b

their_deeds : (st : State) (log : List Entry) → map (λ a. a.0) (events_in (with_answers st log)) ≡ deeds log
their_deeds st [] = refl
their_deeds st (Made d ∷ log) = ap (λ (ds : List Deed). d ∷ ds) (their_deeds (done_by next st (timed_deed d)).0 log)
their_deeds st (Used u ∷ log) = their_deeds st log

-- and with their answers: those that were made with the pass are the entries that were added
pub made_added : (pass pass' : Pass) → IsSamePass pass pass' → (adds : AddsAlone pass pass') (sole : IsSole pass.id)
    → events_by pass' ≡ events_by pass ++ events_in (with_answers (after (start pass.name) pass.seen) (adds sole).0)
made_added pass pass' same adds sole = ap events_in mine_now ∙ events_append (mine_of pass) (with_answers st more.0)
  where
    more : (added : List Entry) × (pass'.seen ≡ pass.seen ++ added) × AllBy pass.id added
    more = adds sole

    st : State
    st = after (start pass.name) pass.seen

    mine_now : mine_of pass' ≡ mine_of pass ++ with_answers st more.0
    mine_now =
        ap (λ (t : Name × ℕ). mine (start t.0) t.1 pass'.seen) (λ i. (same.0 i, same.1 i))
        ∙ ap (λ (log : List Entry). mine (start pass.name) pass.id log) more.1
        ∙ ap (filter (λ a. maker a.0 == pass.id)) (answered_append (start pass.name) pass.seen more.0)
        ∙ filter-append (λ a. maker a.0 == pass.id) (with_answers (start pass.name) pass.seen) (with_answers st more.0)
        ∙ ap (λ (log : List (Entry × Answer)). mine_of pass ++ log) (all_mine st pass.id more.0 more.2)

pub made_there : (pass pass' : Pass) (made : List (Deed × Answer)) → IsSamePass pass pass' → (adds : AddsAlone pass pass') (sole : IsSole pass.id) → events_by pass' ≡ events_by pass ++ made
    → events_in (with_answers (after (start pass.name) pass.seen) (adds sole).0) ≡ made
made_there pass pass' made same adds sole events = append_cancel_left (events_by pass) _ made (sym (made_added pass pass' same adds sole) ∙ events)

pub made_alone : (pass pass' : Pass) (made : List (Deed × Answer)) → IsSamePass pass pass' → AddsAlone pass pass' → IsSole pass.id → events_by pass' ≡ events_by pass ++ made
    → deeds pass'.seen ≡ deeds pass.seen ++ map (λ a. a.0) made
made_alone pass pass' made same adds sole events =
    let more = adds sole in let st = after (start pass.name) pass.seen in
    ap deeds more.1 ∙ deeds_append pass.seen more.0
    ∙ ap (λ (ds : List Deed). deeds pass.seen ++ ds) (sym (their_deeds st more.0) ∙ ap (λ (log : List (Deed × Answer)). map (λ a. a.0) log) (made_there pass pass' made same adds sole events))
