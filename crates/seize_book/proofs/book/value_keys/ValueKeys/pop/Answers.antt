use Rattle.std.proofs.Common.{◌≡◌, ℕ, List, [], ◌∷◌, ◌++◌, true, sym, ap, ◌∙◌, subst}
use Rattle.std.specs.Prelude.{drop, take}
use Rattle.seize_book.specs.Adding.{before_last}
use Rattle.seize_book.specs.Book.{blocks}
use Rattle.seize_book.specs.Entry.{Entry}
use Rattle.seize_book.specs.Homes.{home_of}
use Rattle.seize_book.specs.Ledger.{HeldKey}
use Rattle.seize_book.specs.Linked.{are_linked}
use Rattle.seize_book.specs.Private.{are_of_blocks, is_one, key_of, label_of, labels_of}
use Rattle.seize_book.specs.declared.book.keys.Keys.{Keys}
use Rattle.seize_book.proofs.Lasts.{apart_at, last_one}
use Rattle.seize_book.proofs.Linked.{parted_linked}
use Rattle.seize_book.proofs.Values.{blocks_apart, labels_append}
use Rattle.seize_book.proofs.book.value_keys.ValueKeys.pop.Goals as goal

-- the keys as they were, with none taken out
pub invariant_of-self : goal.invariant_of-self
invariant_of-self c =
    let keys = c.args.self.now in let held = keys.keys.held in let parts = c.part_last.ensures in let same = c.none-last.ensures.0 in
    let front = parts.2 ∙ ap (λ (k : Keys). take (before_last k.held) k.held) same in let whole = apart_at (before_last held) held in record {
      each = ap are_of_blocks front ∙ (blocks_apart (take (before_last held) held) (drop (before_last held) held) (ap are_of_blocks whole ∙ keys.each)).0;
      linked =
          ap are_linked front ∙ (parted_linked (take (before_last held) held) (drop (before_last held) held) (ap are_linked whole ∙ keys.linked)).0;
    }

pub invariant_of-result : goal.invariant_of-result
invariant_of-result c =
    let keys = c.args.self.now in let held = keys.keys.held in let back = c.part_last.ensures.3 ∙ ap (λ (k : Keys). drop (before_last k.held) k.held) c.none-last.ensures.0 in
    let is = last_one held (λ none. c.requires (ap labels_of none)) keys.each in record {
      one = subst (λ (hs : List (HeldKey Entry)). is_one blocks hs ≡ true) (sym back) is.one;
      home = subst (λ (hs : List (HeldKey Entry)). key_of hs ≡ home_of (label_of hs)) (sym back) is.home;
    }

pub returns : goal.returns
returns c =
    let keys = c.args.self.now in let held = keys.keys.held in let parts = c.part_last.ensures in let same = c.none-last.ensures.0 in
    let front = parts.2 ∙ ap (λ (k : Keys). take (before_last k.held) k.held) same in let back = parts.3 ∙ ap (λ (k : Keys). drop (before_last k.held) k.held) same in
    let is = last_one held (λ none. c.requires (ap labels_of none)) keys.each in let whole = apart_at (before_last held) held in
    let both : held ≡ c.part_last.new.self.held ++ c.part_last.new.other.held = sym whole ∙ sym (λ j. front j ++ back j) in (
      parts.0 ∙ ap (λ (k : Keys). k.name) same,
      parts.1 ∙ ap (λ (k : Keys). k.name) same,
      ap labels_of both ∙ (labels_append c.part_last.new.self.held c.part_last.new.other.held
          ∙ ap (λ (vs : List ℕ). labels_of c.part_last.new.self.held ++ vs) (ap labels_of back ∙ (is.labels ∙ ap (λ (v : ℕ). v ∷ []) (sym (ap label_of back))))),
      both,
    )
