-- `look` looks at the list while the porter is shared: the porter's invariant, where the key of the first pass lies, is open beside the book's.
use Rattle.seize_book.proofs.Kit.{Val, Ura, Logic, ent, sep, sem, feq_i, fpack, fjoin, nothing, done, ◌∵◌, qed}
use Rattle.seize_book.proofs.CallKit.{ℕ, ◌≡◌, List, [], ◌∷◌, refl, sym, subst, ‵, ◌⊛◌, some, given, later, await, heard, ◌$◌, !, move, drop, split3, fsplit, pick, learn, rewrite, use1, use3, calls, told, laid2, Only, Laid, pass, shown, after, mine, Entry, loan_of, all_permitted, Name, pass_owns, start, looked, Lft, Share, flft}
use Rattle.std.proofs.Common.{Bool, false, map}
use denote.RattleType.{Valss}
use denote.Struct.Declared.{shape}
use denote.Struct.Struct.{within}
use Rattle.seize_book.specs.Pairs.{AreCovered, Pair, pairs_in}
use Rattle.seize_book.specs.Shared.{porter_shares}
use Rattle.seize_book.specs.contracts.book.permit.Permit as Permit
use Rattle.seize_book.specs.contracts.book.permit.Permitted as Permitted
use Rattle.seize_book.specs.contracts.book.porter.Porter as Porter
use Rattle.seize_book.proofs.Looks.{permits}
use Rattle.seize_book.proofs.Pairs.{permits_of}
use Rattle.seize_book.proofs.Shares.{IsSince, looks_on}
use Rattle.seize_book.proofs.Fields.{token}
use Rattle.seize_book.proofs.Tuples.{pair_val}
use Rattle.seize_book.specs.contracts.book.porter.Porter.look.{ended, clauses}
use Rattle.seize_book.specs.contracts.book.porter.Porter.look.Key.{name as #self}
use Rattle.seize_book.proofs.book.porter.Porter.look.Statement.{statement}
use Rattle.seize_book.proofs.book.porter.Porter.look.Code as code

abbrev pair : Val
pair = pair_val token token

-- the two permits, in one struct
permitted : {M : Type 1} {𝓤 : Ura M} (𝓛 : Logic 𝓤) (x y : Permit.the_row.Denot)
    → ent 𝓤 (sep 𝓤 (sem 𝓛 (Permit.the_row.own_val x (token ∷ []))) (sem 𝓛 (Permit.the_row.own_val y (token ∷ [])))) (sem 𝓛 (Permitted.the_row.own_val (record { named = x; pairs = y }) (pair ∷ [])))
permitted 𝓛 x y =
    qed 𝓛 (‵ (Permit.the_row.own_val x (token ∷ [])) ∷ ‵ (Permit.the_row.own_val y (token ∷ [])) ∷ []) ∵ nothing ! $ move ! (2 ∷ 0 ∷ []) $ fjoin ! $ move ! (1 ∷ 0 ∷ []) $ fjoin ! $ feq_i ! (List Val) (pair ∷ []) (pair ∷ []) refl $ fjoin ! $
    fpack ! (Valss (Permit.the_row ∷ Permit.the_row ∷ [])) (within (shape Permitted.the_type) (x, (y, tt)) (pair ∷ [])) (token ∷ [], (token ∷ [], tt)) $ done !

pub look_spec : {M : Type 1} → statement M
look_spec 𝓤 𝓛 𝓜 𝓡 wired =
    calls 𝓛 ended (shown 𝓛 0 tt (λ κs. Porter.the_row) (λ κs. Porter.the_lent) (λ κs x. refl), (pass 𝓛 1 tt 2 tt, tt)) (clauses 𝓛 𝓜.mem 𝓡.returns) _ (λ κs. let m = Only 𝓛 Permit.the_row Permit.the_heap (λ r. refl) in Laid 𝓛 {R = Permitted.the_row} m m (λ r. (r.named, r.pairs)) (λ r. permitted 𝓛 r.named r.pairs)) 𝓜 𝓡 #self _ (code.unfolded 𝓤 𝓛.H 𝓜 𝓡 wired) (λ κs qs. refl) (λ κs a are. laid2 𝓛 (tt, ((tt, tt), ((tt, tt), tt))) (tt, tt) (tt, (tt, tt)) (tt, tt) (tt, (tt, tt)) (tt, tt) (tt, tt)) (λ κs qs a are gh is end.
    let b = a.0.now in let p = a.1.0.now in let κ : Lft = κs.0 in let q : Share = qs.0 in let n : Name = p.name in move ! (3 ∷ 0 ∷ []) $ heard ! ((b.home ≡ false) × (p.name ≡ b.name)) (λ asked. fsplit ! $ drop ! $
    rewrite ! 0 (λ (h : Bool). ‵ (porter_shares b.name h b.seen κ)) asked.0 refl $ rewrite ! 0 (λ (z : Name). ‵ (porter_shares z false b.seen κ)) (sym asked.1) refl $ move ! (0 ∷ 2 ∷ 1 ∷ []) $
    use3 𝓛 (later (some (λ (log : List Entry). given (IsSince 𝓛 n b.seen 𝓜 𝓡 κ q p.id p.seen log) (‵ (pass_owns n p.id log) ⊛ ‵ (permits n log) ⊛ ‵ (flft κ q)))))
    (looks_on 𝓛 n b.seen 𝓜 𝓡 κ q p.id p.seen) $ await ! tt $ pick ! (λ log. learn ! (λ is. split3 ! $ let ts : List Pair = pairs_in (start n) log in
    move ! (1 ∷ []) $ fsplit ! $ move ! (1 ∷ []) $ use1 𝓛 (some (λ (ks : List ℕ). given (AreCovered ks ts) (‵ (all_permitted n.pairs ks)))) (permits_of 𝓛 n.pairs ts) $ pick ! (λ ks. learn ! (λ covered.
    -- [the permits for the pairs; those for what is lent; what the pass owns; the porter's token]
    let its_named : Permit.the_row.Denot = record { marker = record {}; list = n.permits; codes = map loan_of (after (start n) log).named } in let its_pairs : Permit.the_row.Denot = record { marker = record {}; list = n.pairs; codes = ks } in
    move ! (3 ∷ 2 ∷ 1 ∷ 0 ∷ []) $ end (record { named = its_named; pairs = its_pairs }) (tt, (log, tt))
    (told 𝓤 (looked n p.id p.seen log is.0 is.1, (is.2, subst (λ (z : Name). mine (start z) 0 log ≡ mine (start z) 0 b.seen) asked.1 is.3), (refl, refl), (refl, covered)))))))))
