-- Steps behind steps change nothing under other names.
use Rattle.std.specs.Prelude.{◌≡◌, ℕ, Bool, false, List, [], ◌∷◌, ◌++◌, refl}
use Rattle.std.proofs.Common.{sym, ap, ◌∙◌, subst}
use Rattle.std.proofs.lemmas.Bool.{or_parts, or_from}
use Rattle.std.proofs.lemmas.List.Folds.{list_any-append}
use Rattle.std.specs.Str.{bytes_eq}
use Rattle.rdf_meaning.specs.Terms.{RdfTerm}
use Rattle.query_eval_meaning.specs.Mapping.{Mapping}
use Rattle.sql_meaning.specs.declared.script.Step.{Step}
use Rattle.sql_rows_meaning.specs.Tables.{Relations, with_relation}
use Rattle.sql_rows_meaning.specs.Rows.{body_relation, after_steps}
use Rattle.sql_gen_step_laws.specs.Carried.{Name, Ids, Carries}
use Rattle.sql_gen_chain_laws.specs.Chains.{is_named, IsApart, SameBase, Stands}

pub after-append : (xs ys : List Step) (t : Relations) → after_steps (xs ++ ys) t ≡ after_steps ys (after_steps xs t)
after-append [] ys t = refl
after-append (s ∷ xs) ys t = after-append xs ys (with_relation s.name (body_relation t s.body) t)

-- later steps change nothing under other names
pub after-other : (steps : List Step) (t : Relations) (n : Name) → is_named n steps ≡ false → after_steps steps t n ≡ t n
after-other [] t n e = refl
after-other (s ∷ steps) t n e =
    let h = or_parts (bytes_eq n s.name) (is_named n steps) e in
    after-other steps (with_relation s.name (body_relation t s.body) t) n h.1 ∙ rw h.0 refl

pub apart-append : (base : Name → Bool) (xs ys : List Step) → IsApart base xs → IsApart base ys → IsApart base (xs ++ ys)
apart-append base xs ys p q = record { names = λ m e. list_any-append (λ (s : Step). bytes_eq m s.name) xs ys ∙ or_from _ _ (p.names m e) (q.names m e) }

-- after steps that are apart from them the base tables are as before
pub base-after : (base : Name → Bool) (given : Relations) (steps : List Step) → IsApart base steps → (t : Relations) → SameBase base given t → SameBase base given (after_steps steps t)
base-after base given steps apart t same n e = after-other steps t n (apart.names n e) ∙ same n e

-- further steps over one table
pub goes-on : (base : Name → Bool) (given : Relations) (ids : Ids) (known : RdfTerm → Bool) (vs us : List ℕ) (ms ns : List Mapping) (steps more : List Step) (a n : Name) →
    Stands base given ids known vs ms steps a → ((t : Relations) → SameBase base given t → Carries ids known vs ms (t a) → Carries ids known us ns (after_steps more t n)) → IsApart base more → Stands base given ids known us ns (steps ++ more) n
goes-on base given ids known vs us ms ns steps more a n s next apart = record {
  carries = λ t same.
      let whole : after_steps (steps ++ more) t n ≡ after_steps more (after_steps steps t) n = ap (λ (u : Relations). u n) (after-append steps more t) in
      subst (Carries ids known us ns) (sym whole) (next (after_steps steps t) (base-after base given steps s.apart t same) (s.carries t same));
  apart = apart-append base steps more s.apart apart;
}

-- the steps of two sides, and further steps over the tables of both
pub goes-on_both : (base : Name → Bool) (given : Relations) (ids : Ids) (known : RdfTerm → Bool) (vs ws us : List ℕ) (ls rs ns : List Mapping) (left right more : List Step) (a b n : Name) →
    Stands base given ids known vs ls left a → Stands base given ids known ws rs right b → is_named a right ≡ false → IsApart base more →
    ((t : Relations) → SameBase base given t → Carries ids known vs ls (t a) → Carries ids known ws rs (t b) → Carries ids known us ns (after_steps more t n)) →
    Stands base given ids known us ns (left ++ right ++ more) n
goes-on_both base given ids known vs ws us ls rs ns left right more a b n sa sb other apart_more next = record {
  carries = λ t same.
      let t1 : Relations = after_steps left t in
      let t2 : Relations = after_steps right t1 in
      let whole : after_steps (left ++ right ++ more) t n ≡ after_steps more t2 n =
      ap (λ (u : Relations). u n) (after-append (left ++ right) more t)
      ∙ ap (λ (u : Relations). after_steps more u n) (after-append left right t) in
      let here : t2 a ≡ t1 a = after-other right t1 a other in
      let same1 : SameBase base given t1 = base-after base given left sa.apart t same in
      subst (Carries ids known us ns) (sym whole)
      (next t2 (base-after base given right sb.apart t1 same1) (subst (Carries ids known vs ls) (sym here) (sa.carries t same)) (sb.carries t1 same1));
  apart = apart-append base (left ++ right) more (apart-append base left right sa.apart sb.apart) apart_more;
}
