-- A code of terms, by which a proof tells them apart: a term as a tree of numbers.
use Rattle.std.specs.Prelude.{◌≡◌, refl}
use Rattle.std.specs.Coded.{Coded, coded_bool, coded_list}
use base.Stored.{Gv, gnil, gnum, gcons}
use Rattle.pol_pattern.specs.Flat.{Class, Factor, class, group, star, Term, empty, put, Terms, none}
use Rattle.pol_pattern.specs.Flat.{alt}

abbrev pub class_code : Coded Class
class_code = coded_list coded_bool

abbrev mutual
  pub factor_tree : Factor → Gv
  factor_tree (class c) = gcons (gnum 0) (class_code.code c)
  factor_tree (group terms) = gcons (gnum 1) (terms_tree terms)
  factor_tree (star terms) = gcons (gnum 2) (terms_tree terms)

  pub term_tree : Term → Gv
  term_tree empty = gnil
  term_tree (put factor rest) = gcons (factor_tree factor) (term_tree rest)

  pub terms_tree : Terms → Gv
  terms_tree none = gnil
  terms_tree (alt first others) = gcons (term_tree first) (terms_tree others)

mutual
  factor_tree-same : (a b : Factor) → factor_tree a ≡ factor_tree b → a ≡ b
  factor_tree-same (class c) (class d) e = let same : c ≡ d = class_code.inj c d cc in cc
  factor_tree-same (class c) (group s) e = absurd cc
  factor_tree-same (class c) (star s) e = absurd cc
  factor_tree-same (group r) (class d) e = absurd cc
  factor_tree-same (group r) (group s) e = let same : r ≡ s = terms_tree-same r s cc in cc
  factor_tree-same (group r) (star s) e = absurd cc
  factor_tree-same (star r) (class d) e = absurd cc
  factor_tree-same (star r) (group s) e = absurd cc
  factor_tree-same (star r) (star s) e = let same : r ≡ s = terms_tree-same r s cc in cc

  pub term_tree-same : (a b : Term) → term_tree a ≡ term_tree b → a ≡ b
  term_tree-same empty empty e = refl
  term_tree-same empty (put f t) e = absurd cc
  term_tree-same (put f t) empty e = absurd cc
  term_tree-same (put f t) (put g u) e =
      let first : f ≡ g = factor_tree-same f g cc in
      let rest : t ≡ u = term_tree-same t u cc in
      cc

  terms_tree-same : (a b : Terms) → terms_tree a ≡ terms_tree b → a ≡ b
  terms_tree-same none none e = refl
  terms_tree-same none (alt t r) e = absurd cc
  terms_tree-same (alt t r) none e = absurd cc
  terms_tree-same (alt t r) (alt u s) e =
      let first : t ≡ u = term_tree-same t u cc in
      let rest : r ≡ s = terms_tree-same r s cc in
      cc

abbrev pub term_code : Coded Term
term_code = record { code = term_tree; inj = term_tree-same }
