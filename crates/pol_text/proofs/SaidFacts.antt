-- What follows the words `service` and `refuse` is read as it is spelled, and only so.
use Rattle.std.proofs.Common.{◌≡◌, ℕ, true, List, [], ◌++◌, codes, Option, Some, None, Result, Ok, refl, sym, ap, ◌∙◌, append-nil}
use Rattle.std.specs.Option.{option_map}
use Rattle.pol_names.specs.Service.{is_service, service_of, service_text, attributed_of, attributed_text, allowing, refusing, line_text}
use Rattle.pol_names.specs.declared.service.ServiceId.{ServiceId}
use Rattle.pol_names.specs.declared.service.ServiceLine.{ServiceLine}
use Rattle.pol_names.proofs.ServiceFacts.{again as service_again, found as service_found, service_field, attributed_again, attributed_found}
use Rattle.pol_text.specs.declared.fault.PolicyRefusal.TheVariants.{BadLine, BadName}
use Rattle.pol_text.specs.Text.{is_field, allowed_by, refused_by}
use Rattle.pol_text.proofs.RightFacts.{some_of, first_ok}

-- ---- what is spelled so is read

pub allowed_again : (service : ServiceId) (attribute : Option (List ℕ)) → is_service service ≡ true → allowed_by (attributed_text service attribute) ≡ Ok (allowing service attribute)
allowed_again service attribute right = rw (attributed_again service attribute right) refl

pub refused_again : (service : ServiceId) → is_service service ≡ true → refused_by (attributed_text service None) ≡ Ok (refusing service)
refused_again service right =
    rw (append-nil (service_text service), service_field service right, service_again service right) refl

-- ---- what is read is spelled so

pub allowed_found : (text : List ℕ) (line : ServiceLine) → allowed_by text ≡ Ok line → codes "service " ++ text ≡ line_text line
allowed_found text line h = by (attributed_of text) refl (some_of (option_map (λ (read : ServiceId × Option (List ℕ)). allowing read.0 read.1) (attributed_of text)) BadName line h)
  where
    by : (o : Option (ServiceId × Option (List ℕ))) → attributed_of text ≡ o → option_map (λ (read : ServiceId × Option (List ℕ)). allowing read.0 read.1) o ≡ Some line
        → codes "service " ++ text ≡ line_text line
    by None e k = absurd cc
    by (Some read) e k =
        let is : line ≡ allowing read.0 read.1 = cc in
        rw is (ap (λ (t : List ℕ). codes "service " ++ t) (attributed_found text read e).1)

pub refused_found : (text : List ℕ) (line : ServiceLine) → refused_by text ≡ Ok line → codes "refuse " ++ text ≡ line_text line
refused_found text line h =
    by (service_of text) refl (some_of (option_map refusing (service_of text)) BadName line (first_ok (is_field text) _ BadLine line h).1)
  where
    by : (o : Option ServiceId) → service_of text ≡ o → option_map refusing o ≡ Some line → codes "refuse " ++ text ≡ line_text line
    by None e k = absurd cc
    by (Some service) e k =
        let is : line ≡ refusing service = cc in
        rw is (ap (λ (t : List ℕ). codes "refuse " ++ t) ((service_found text service e).1 ∙ sym (append-nil (service_text service))))
