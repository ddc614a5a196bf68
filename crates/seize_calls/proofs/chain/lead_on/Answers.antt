use Rattle.std.proofs.Common.{◌≡◌, ℕ, true, List, [], ◌∷◌, ◌++◌, lit<, refl, sym, ap, subst, ◌∙◌}
use Rattle.seize_book.specs.Entry.{Entry}
use Rattle.seize_book.specs.Ledger.{HeldKey}
use Rattle.seize_book.specs.Linked.{are_joined, next_in}
use Rattle.seize_book.specs.Notes.{with_note}
use Rattle.seize_book.specs.Others.{value_of}
use Rattle.seize_book.specs.Private.{label_of, labels_of, note_of}
use Rattle.seize_book.specs.Tokens.{Name}
use Rattle.seize_book.specs.Values.{AllNew}
use Rattle.seize_words.proofs.Facts.{noted_one}
use Rattle.seize_book.specs.Kept.{kept_in}
use Rattle.seize_calls.specs.Numbered.{ends_at}
use Rattle.seize_calls.proofs.Batches.{ends_last, joined_last, kept_one, kepts, kepts_append, last_joined}
use Rattle.seize_calls.proofs.Chains.{new_noted, no_keys, none_all}
use Rattle.seize_calls.proofs.chain.lead_on.Goals as goal

pub cell-cell-requires : goal.cell-cell-requires
cell-cell-requires g c =
    let rest = c.pop-value.new.self in let v = value_of c.pop-value.result in (
      lit< tt,
      (
        c.pop-value.ensures.1 ∙ c.requires.book,
        ends_last c.args.last (labels_of rest.keys.held) v (subst (λ (vs : List ℕ). ends_at c.args.last vs ≡ true) c.pop-value.ensures.2 c.requires.last),
      ),
    )

pub push-requires-clause-leads : goal.push-requires-clause-leads
push-requires-clause-leads g c =
    let values = c.args.values.now in let rest = c.pop-value.new.self in let value = c.pop-value.result in let last = c.set_note.new.self in
    (joined_last values.keys.held rest.keys.held value.keys.held last.keys.held value.one last.one
    (ap label_of c.set_note.ensures.1 ∙ (noted_one c.note-note.new.self.keys.held _ c.note-note.new.self.one).1 ∙ ap label_of c.note-note.ensures.same.1) c.pop-value.ensures.3 values.linked)

pub returns-then-empty-clause-leads : goal.returns-then-empty-clause-leads
returns-then-empty-clause-leads g c =
    let values = c.args.values.now in let none = none_all (labels_of values.keys.held) (sym c.requires.empty ∙ c.if-empty.true) in
    (refl, refl, refl, λ h number. subst (λ (held : List (HeldKey Entry)). are_joined held (h ∷ []) ≡ true) (sym (no_keys values.keys.held none)) refl)

pub returns-clause-leads : goal.returns-clause-leads
returns-clause-leads g c =
    let values = c.args.values.now in let rest = c.pop-value.new.self in let value = c.pop-value.result in let seen = c.note-note.new.self in let last = c.set_note.new.self in let now = c.push.new.self in
    let parts = noted_one seen.keys.held _ seen.one in
    let label = ap label_of c.set_note.ensures.1 ∙ parts.1 ∙ ap label_of c.note-note.ensures.same.1 in
    let noted = ap note_of c.set_note.ensures.1 ∙ parts.2 in
    let kept = ap kept_in c.note-note.ensures.note in (
      c.push.ensures.0 ∙ c.pop-value.ensures.0,
      c.push.ensures.1 ∙ ap (λ (w : ℕ). labels_of rest.keys.held ++ w ∷ []) label ∙ sym c.pop-value.ensures.2,
      ap kepts c.push.ensures.2 ∙ kepts_append rest.keys.held last.keys.held
          ∙ ap (λ (ks : List ℕ). kepts rest.keys.held ++ ks) (kept_one last.keys.held c.note-note.result.kept last.one (ap kept_in noted) ∙ sym (kept_one value.keys.held c.note-note.result.kept value.one (sym kept)))
          ∙ sym (kepts_append rest.keys.held value.keys.held) ∙ ap kepts (sym c.pop-value.ensures.3),
      (λ h number.
          subst (λ (held : List (HeldKey Entry)). are_joined held (h ∷ []) ≡ true) (sym c.push.ensures.2)
          (last_joined rest.keys.held last.keys.held h c.args.number last.one (ap next_in noted) number)),
    )

pub returns-clause-new : goal.returns-clause-new
returns-clause-new g c = λ all.
    let rest = c.pop-value.new.self in let value = c.pop-value.result in let now = c.push.new.self in let g = note_of c.set_note.new.self.keys.held in
    let noted = c.set_note.ensures.1 ∙ ap (with_note _) c.note-note.ensures.same.1 in
    subst (λ (t : Name × List (HeldKey Entry)). AllNew t.0 t.1) (λ i. (sym (c.push.ensures.0 ∙ c.pop-value.ensures.0) i, sym (c.push.ensures.2 ∙ ap (λ (held : List (HeldKey Entry)). rest.keys.held ++ held) noted) i))
    (new_noted (c.args.values.now.keys.name) rest.keys.held value.keys.held _ (subst (AllNew c.args.values.now.keys.name) c.pop-value.ensures.3 all))
