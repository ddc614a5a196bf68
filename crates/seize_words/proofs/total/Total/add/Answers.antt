use Rattle.std.proofs.Common.{◌≡◌, ℕ, suc, ◌++◌, List, [], ◌∷◌, length, refl, sym, ap, ◌∙◌, subst}
use Rattle.std.specs.Prelude.{drop, take}
use Rattle.seize_machine.specs.Machine.State.{State, head_at, is_active, slot_at}
use Rattle.seize_machine.specs.Machine.Event.{Take}
use Rattle.seize_machine.specs.Machine.Next.{first_free}
use Rattle.seize_book.specs.Adding.{private}
use Rattle.seize_book.specs.Book.{by_slot, numbers}
use Rattle.seize_book.specs.Entry.{Entry, Made}
use Rattle.seize_book.specs.Ledger.{HeldKey, with_list}
use Rattle.seize_book.specs.Private.{key_of, own_of}
use Rattle.seize_book.specs.Tokens.{AddsEntry, Name, start}
use Rattle.seize_words.specs.Totals.{made_of}
use Rattle.seize_book.specs.declared.book.keys.Keys.{Keys}
use Rattle.seize_book.proofs.Bounds.{size_itself}
use Rattle.seize_book.proofs.Facts.{only_is}
use Rattle.seize_words.proofs.Taken.{AreBoth, may_take, now_at, told}
use Rattle.seize_words.proofs.total.Total.add.Goals as goal

pub add-requires : goal.add-requires
add-requires c =
    let total = c.args.self.now in let key = c.args.key.now in let number = c.args.numbers.now in let pass = c.args.pass.now in let both = c.join.new.self in let same = c.none-head.ensures.0 ∙ c.none-next.ensures.0 in
    let book = c.requires.book in let joined : AreBoth both number key = (c.join.ensures.0 ∙ ap (λ (k : Keys). k.name) same, c.join.ensures.2 ∙ ap (λ (k : Keys). k.held ++ key.keys.held) same) in
    (book.2, joined.0 ∙ book.1, may_take total.word number key pass both total.total book c.requires.next c.requires.place joined, λ v log. size_itself pass.size)

pub returns-clause-made : goal.returns-clause-made
returns-clause-made c =
    let total = c.args.self.now in let key = c.args.key.now in let number = c.args.numbers.now in let pass = c.args.pass.now in let both = c.join.new.self in let same = c.none-head.ensures.0 ∙ c.none-next.ensures.0 in
    let book = c.requires.book in let joined : AreBoth both number key = (c.join.ensures.0 ∙ ap (λ (k : Keys). k.name) same, c.join.ensures.2 ∙ ap (λ (k : Keys). k.held ++ key.keys.held) same) in
    let n = number.keys.name in let seen = c.add.new.pass.seen in let t = told total.word number key pass both total.total book c.requires.next c.requires.place joined c.add.new.keys c.add.new.pass c.add.result c.add.ensures in
    let first = c.part.ensures.2 ∙ ap (take 1) t.held in let rest = c.part.ensures.3 ∙ ap (drop 1) t.held in
    let its = c.part-2.ensures.2 ∙ ap (take 1) rest in let others = c.part-2.ensures.3 ∙ ap (drop 1) rest in
    let name = c.part-2.ensures.0 ∙ c.part.ensures.1 ∙ t.name in let own = ap own_of its in let is = ap key_of its ∙ c.requires.next.1 in
    let all_now = λ (f : State → ℕ). now_at c.part.new.self n seen t.noted.later (key_of c.part.new.self.held) (c.part.ensures.0 ∙ t.name) (ap own_of first) refl t.noted.leads (λ st s. f st) in
    let made =
    subst (λ (x : Name × ℕ). (noted : AddsEntry x.0 pass.id pass.seen seen (Made (private pass (Take x.1))))
    × (by_slot (start x.0) x.1 seen ≡ by_slot (start x.0) x.1 (own_of key.keys.held) ++ (Made (private pass (Take x.1)), noted.answer) ∷ []))
    (λ j. (book.1 j, sym c.requires.next.1 j)) (t.noted, t.acts) in
    record {
      same = t.same;
      noted = made.0;
      acts =
          ap (λ (x : Name × (ℕ × List Entry)). by_slot (start x.0) x.1.0 x.1.1) (λ j. ((name ∙ book.1) j, (ap key_of its j, own j)))
          ∙ made.1
          ∙ ap (λ (m : Name). by_slot (start m) (key_of key.keys.held) (own_of key.keys.held) ++ (Made (private pass (Take (key_of key.keys.held))), made.0.answer) ∷ []) (sym book.0);
      seen_by = (c.part-2.ensures.0 ∙ c.part.ensures.1 ∙ t.name ∙ book.1 ∙ sym book.0, ap key_of its, ap own_of its);
      follows = (c.part.ensures.0 ∙ t.name, first ∙ sym (ap (λ (hs : List (HeldKey _)). with_list hs seen) (only_is numbers number.keys.held number.one)));
      idle = now_at c.part-2.new.self n seen t.noted.later (made_of number) name own is t.noted.leads (λ st s. slot_at st s) ∙ t.slot;
      inactive = now_at c.part-2.new.self n seen t.noted.later (made_of number) name own is t.noted.leads (λ st s. is_active (head_at st s)) ∙ ap is_active t.head;
      next = (
        all_now (λ st. length st.slots) ∙ t.full.0,
        all_now (λ st. first_free st.slots) ∙ t.full.1 ∙ sym (all_now (λ st. length st.slots) ∙ t.full.0),
      );
      rest = (t.rest.0, now_at c.part.new.self n seen t.noted.later (key_of c.part.new.self.held) (c.part.ensures.0 ∙ t.name) (ap own_of first) refl t.noted.leads (λ st s. st.rest) ∙ t.rest.1);
    }

pub returns-clause-next : goal.returns-clause-next
returns-clause-next c =
    let total = c.args.self.now in let key = c.args.key.now in let number = c.args.numbers.now in let pass = c.args.pass.now in let both = c.join.new.self in let same = c.none-head.ensures.0 ∙ c.none-next.ensures.0 in
    let book = c.requires.book in let joined : AreBoth both number key = (c.join.ensures.0 ∙ ap (λ (k : Keys). k.name) same, c.join.ensures.2 ∙ ap (λ (k : Keys). k.held ++ key.keys.held) same) in
    let n = number.keys.name in let seen = c.add.new.pass.seen in let t = told total.word number key pass both total.total book c.requires.next c.requires.place joined c.add.new.keys c.add.new.pass c.add.result c.add.ensures in
    let first = c.part.ensures.2 ∙ ap (take 1) t.held in let rest = c.part.ensures.3 ∙ ap (drop 1) t.held in
    let its = c.part-2.ensures.2 ∙ ap (take 1) rest in let others = c.part-2.ensures.3 ∙ ap (drop 1) rest in
    let slot = c.part-3.ensures.2 ∙ ap (take 1) others in let head = c.part-3.ensures.3 ∙ ap (drop 1) others in
    let name = c.part-2.ensures.1 ∙ c.part.ensures.1 ∙ t.name in let pass_name = book.1 ∙ sym t.same.0 in
    let many = now_at c.part.new.self n seen t.noted.later (key_of c.part.new.self.held) (c.part.ensures.0 ∙ t.name) (ap own_of first) refl t.noted.leads (λ st s. length st.slots) ∙ t.full.0 in
    record {
      book = (c.part-3.ensures.0 ∙ name ∙ pass_name, c.part-3.ensures.1 ∙ name ∙ pass_name);
      number = (ap key_of slot ∙ sym many, ap key_of head ∙ sym many);
      own = (ap own_of slot, ap own_of head);
      inactive = now_at c.part-3.new.other n seen t.noted.later (suc (made_of number)) (c.part-3.ensures.1 ∙ name) (ap own_of head) (ap key_of head) t.noted.leads (λ st s. head_at st s) ∙ t.next_head;
    }
