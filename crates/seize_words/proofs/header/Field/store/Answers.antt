use Rattle.std.proofs.Common.{false, [], sym, subst, ◌⊎◌}
use Rattle.seize_words.specs.Atomic.{TakesStep}
use Rattle.seize_book.specs.Chains.{first_field, next_field}
use Rattle.seize_words.specs.Headers.{IsStoring, field_number}
use Rattle.seize_book.specs.Private.{key_of, own_of}
use Rattle.seize_words.specs.Stepping.{MayStep}
use Rattle.seize_book.specs.Tokens.{Name, start}
use Rattle.seize_words.specs.Words.{Site}
use Rattle.seize_words.proofs.Stepped.{key_then}
use Rattle.seize_words.proofs.Uses.{is_at_field, may_store, used, uses_it, wrote_first, wrote_next}
use Rattle.seize_words.proofs.header.Field.store.Goals as goal

pub replace-requires : goal.replace-requires
replace-requires c =
    let field = c.args.self.now in let key = c.args.key.now in let pass = c.args.pass.now in let held = key.keys.held in let book = c.requires.book in let f = field_number field in let s = key_of held in
    let stores = subst (λ (n : Name). IsStoring (start n) s (own_of held) next_field f ⊎ IsStoring (start n) s (own_of held) first_field f) book.0 c.requires.stored in (
      book.1,
      book.0,
      subst (λ (w : Site). MayStep w pass.id pass.seen held [] [] (λ v. c.args.value) (λ v log. uses_it pass.name f pass.id s c.args.value) (λ v. false)) (sym (is_at_field field.word pass.name book.1 field.field))
          (may_store pass.name f pass.id c.args.value pass.seen held key.one stores),
      λ v log. tt,
    )

pub returns-clause-uses : goal.returns-clause-uses
returns-clause-uses c =
    let field = c.args.self.now in let key = c.args.key.now in let pass = c.args.pass.now in let pass' = c.replace.new.pass in let keys' = c.replace.new.keys in let v = c.replace.result in let f = field_number field in
    let told = subst (λ (w : Site). TakesStep w key.keys pass keys' pass' [] (λ v. c.args.value) v (λ v log. uses_it pass.name f pass.id (key_of key.keys.held) c.args.value) (λ v. false)) (is_at_field field.word pass.name c.requires.book.1 field.field) c.replace.ensures in
    used f key _ pass pass' (λ v. c.args.value) v c.args.value told c.requires.book.0

pub returns-clause-wrote : goal.returns-clause-wrote
returns-clause-wrote c =
    let field = c.args.self.now in let key = c.args.key.now in let pass = c.args.pass.now in let pass' = c.replace.new.pass in let keys' = c.replace.new.keys in let v = c.replace.result in let f = field_number field in
    let told = subst (λ (w : Site). TakesStep w key.keys pass keys' pass' [] (λ v. c.args.value) v (λ v log. uses_it pass.name f pass.id (key_of key.keys.held) c.args.value) (λ v. false)) (is_at_field field.word pass.name c.requires.book.1 field.field) c.replace.ensures in
    let key' = key_then key keys' pass'.seen told.2.keys in (
      wrote_next f key key' pass pass' (λ v. c.args.value) v c.args.value told c.requires.book.0,
      wrote_first f key key' pass pass' (λ v. c.args.value) v c.args.value told c.requires.book.0,
    )
