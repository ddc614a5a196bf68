-- What was found in a link, and what a pass knows of it.
use Rattle.std.proofs.Common.{◌≡◌, ◌⊎◌, ℕ, ◌+◌, List, Option, None, Some, IfSome, arith, inl, inr, refl, subst, sym, ◌∙◌}
use denote.Bor.{Bor}
use Rattle.seize_machine.specs.Machine.Event.{Event, ExchangeLink, ReadLink}
use Rattle.seize_machine.specs.declared.machine.event.Answer.{Answer}
use Rattle.seize_machine.specs.declared.machine.event.Exchange.TheVariants.{Compare, Swap}
use Rattle.seize_book.specs.Blocks.{block_number, link_word}
use Rattle.seize_book.specs.Books.{Learns}
use Rattle.seize_book.specs.Laws.{Reader}
use Rattle.seize_book.specs.Passes.{LooksOn}
use Rattle.seize_book.specs.Tokens.{Name, start}
use Rattle.seize_book.proofs.Loans.{reader_later}
use Rattle.seize_parts.proofs.Made.{none_learned, none_then}
use Rattle.seize_book.specs.declared.book.pass.Pass.{Pass}
use Rattle.seize_book.specs.declared.book.seen.Seen.{Seen}
use Rattle.seize_words.specs.LinkWords.{CompareExchanges, Finds, Swaps, WasFoundIn, held_before, link_number, value_held}
use Rattle.seize_words.specs.declared.activation.Activation.{Activation}
use Rattle.seize_words.specs.declared.glimpse.Glimpse.{Glimpse}
use Rattle.seize_words.specs.declared.link.Link.{Link}
use Rattle.seize_words.specs.declared.link.MaybeKey.{MaybeKey}
use Rattle.seize_words.proofs.Facts.{found_later, was_found}
use Rattle.seize_calls.proofs.Slots.{longer_left, longer_right}
use base.Stored.{Gv}
use Rattle.seize_words.specs.Joined.{words_book}
use Rattle.seize_guards.specs.Links.{IsSharedOf, shared_name}
use Rattle.seize_guards.specs.Exchanges.{FoundIn, Learned}
use Rattle.seize_guards.specs.declared.block.shared.Shared.{Shared}
use Rattle.seize_words.specs.declared.words.Words.{Words}
use Rattle.seize_parts.specs.Makes.{Makes}

-- it was found, whatever the pass has seen since
pub found_still : (a : Activation) (o : Option ℕ) {pass pass' : Pass} {es : List (Event × Answer)} → Makes pass pass' es → FoundIn a o pass → FoundIn a o pass'
found_still a o {pass} {pass'} makes found v is = found_later a v pass pass' makes.same.0 makes.grows (found v is)

pub found_looked : (a : Activation) (o : Option ℕ) (pass pass' : Pass) → (pass' ≡ pass) ⊎ LooksOn pass pass' → FoundIn a o pass → FoundIn a o pass'
found_looked a o pass pass' (inl same) found = subst (FoundIn a o) (sym same) found
found_looked a o pass pass' (inr looks) found = λ v is. found_later a v pass pass' looks.same.0 looks.grows (found v is)

-- What the caller takes a link to hold was found in an activation that lasts, as the pass knows,
abbrev pub KnowsFound : {T : Type 0} → Option (Bor (Shared T)) → Pass → Type 0
KnowsFound current pass = IfSome current (λ shared. WasFoundIn shared.now.lasting (shared_name shared.now) pass)

-- once it learned from it,
pub found_learned : {T : Type 0} (code : T → Gv) (collector : Words T) (current : Option (Bor (Shared T))) (pass pass' : Pass) → Learned current pass pass' → IfSome current (λ shared. IsSharedOf code collector shared.now) → words_book collector ≡ pass.name → KnowsFound current pass'
found_learned code collector None pass pass' learned of book = tt
found_learned code collector (Some shared) pass pass' learned of book = λ w is.
    let l = shared.now.lasting in
    reader_later (start pass'.name) l.seen pass'.seen w l.life (longer_right pass.seen l.seen pass'.seen learned.2)
    (subst (λ (n : Name). Reader (start n) l.seen w l.life) (book ∙ sym learned.0.0) (of.2 w is))

-- and whatever it learned since
pub found_ready : {T : Type 0} (current : Option (Bor (Shared T))) (pass : Pass) (seen : Seen) (learned ready : Pass) → Learns pass seen learned → ready ≡ learned → KnowsFound current pass → KnowsFound current ready
found_ready None pass seen learned ready learns same found = tt
found_ready (Some shared) pass seen learned ready learns same found = λ w is.
    let life = shared.now.lasting.life in
    subst (λ (p : Pass). Reader (start p.name) p.seen w life) (sym same)
    (subst (λ (n : Name). Reader (start n) learned.seen w life) (sym learns.0.0) (reader_later (start pass.name) pass.seen learned.seen w life (longer_left pass.seen seen.seen learned.seen learns.2) (found w is)))

-- nothing is made where a pass learns
pub told_then : {T : Type 0} (current : Option (Bor (Shared T))) {p q r : Pass} {es : List (Event × Answer)} → Learned current p q → Makes q r es → Makes p r es
told_then None {p} {q} {r} {es} same makes = subst (λ (z : Pass). Makes z r es) same makes
told_then (Some shared) {p} {q} learned makes =
    let l = shared.now.lasting in none_then (none_learned p (record { marker = record {}; name = l.name; seen = l.seen }) q learned) makes

-- what a read finds
pub finds_found : (link : Link) (a : Activation) (pass pass' : Pass) (v : ℕ) (t : Finds link a pass pass' v) → FoundIn a (held_before t.reads) pass'
finds_found link a pass pass' v t w is =
    found_later a w t.mid pass' t.looks.same.0 t.looks.grows (was_found link a pass t.mid (ReadLink a.slot (link_number link)) v w t.reads (refl, refl) is)

pub none_held : (o : Option ℕ) → link_word o ≡ 0 → o ≡ None
none_held None is = refl
none_held (Some w) is = absurd (let e : block_number w + 1 ≡ 0 = is in omega (arith, e))

-- what an exchange finds
pub exchange_found : (link : Link) (a : Activation) (key : MaybeKey) (pass : Pass) (current : Option ℕ) (key' : MaybeKey) (pass' : Pass) (v : ℕ) (glimpse : Glimpse)
    (t : CompareExchanges link a key pass current key' pass' v glimpse) → FoundIn a (held_before t.0) pass'
exchange_found link a key pass current key' pass' v glimpse t w is = was_found link a pass pass' (ExchangeLink a.slot (link_number link) (Compare current (value_held key))) v w t.0 (refl, refl) is

pub swap_found : (link : Link) (a : Activation) (key : MaybeKey) (pass : Pass) (key' : MaybeKey) (pass' : Pass) (v : ℕ) (t : Swaps link a key pass key' pass' v) → FoundIn a (held_before t.0) pass'
swap_found link a key pass key' pass' v t w is = was_found link a pass pass' (ExchangeLink a.slot (link_number link) (Swap (value_held key))) v w t.0 (refl, refl) is
