-- For whom nothing changes.
use Rattle.std.proofs.Common.{◌≡◌, ℕ, Bool, List, [], ◌∷◌, Option, None, Some, if◌then◌else◌, refl, ap, ◌∙◌}
use Rattle.std.specs.Prelude.{filter_map}
use Rattle.std.specs.List.{cons_option}
use Rattle.pol_names.specs.SameService.{same_service}
use Rattle.pol_names.specs.declared.service.ServiceId.{ServiceId}
use Rattle.pol_text.specs.declared.subject.Subject.{Subject}
use Rattle.pol_given.specs.Given.{the_shell, service_arguments, shell_arguments}
use Rattle.pol_meaning.specs.LineChanges.{permits}
use Rattle.pol_meaning.specs.SameChange.{same_reply-Decides}
use Rattle.pol_meaning.specs.ServiceChanges.{shell_reply, reply_of, services_named, service_change, service_changes_of}
use Rattle.pol_meaning.specs.declared.ServiceChange.{ServiceChange}

module _ (before after : List Subject) (user : List ℕ) (services : (service : ServiceId) → service_arguments before user service ≡ service_arguments after user service)
    (shell : shell_arguments before user ≡ shell_arguments after user) (permitted : permits before user [] ≡ permits after user []) where
  same_shell : shell_reply before user ≡ shell_reply after user
  same_shell =
      ap (λ (permits : Bool). if permits then shell_arguments before user else []) permitted
      ∙ ap (λ (arguments : List (List ℕ)). if permits after user [] then arguments else []) shell

  same_replies : (service : ServiceId) → reply_of before user service ≡ reply_of after user service
  same_replies service =
      ap (λ (reply : List (List ℕ)). if same_service service the_shell then Some reply else service_arguments before user service) same_shell
      ∙ ap (λ (reply : Option (List (List ℕ))). if same_service service the_shell then Some (shell_reply after user) else reply) (services service)

  unchanged : (service : ServiceId) → service_change before after user service ≡ None
  unchanged service =
      let was = reply_of before user service in
      let is = reply_of after user service in
      ap (λ (same : Bool). if same then None else Some (record { user = user; service = service; was = was; is = is })) ((same_reply-Decides was is).1 (same_replies service))

  none_changed : (named : List ServiceId) → filter_map (service_change before after user) named ≡ []
  none_changed [] = refl
  none_changed (service ∷ rest) =
      ap (λ (change : Option ServiceChange). cons_option change (filter_map (service_change before after user) rest)) (unchanged service) ∙ none_changed rest

  pub stays : service_changes_of before after user ≡ []
  stays = none_changed (services_named before after)
