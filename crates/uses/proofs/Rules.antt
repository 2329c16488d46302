-- The rules on sets tell how parts of an iteration use an address.
use Rattle.std.proofs.Common.{rules}
use Rattle.uses.specs.Use.{untouched}
use Rattle.uses.specs.Laws.{SequenceTells, GateTells}

pub tells_sequence : SequenceTells
tells_sequence ro1 wf1 rw1 ro2 wf2 rw2 untouched untouched a b = record { ro_is = λ h. search rules; is_ro = λ h. search rules; wf_is = λ h. search rules; is_wf = λ h. search rules; rw_is = λ h. search rules; is_rw = λ h. search rules }
tells_sequence ro1 wf1 rw1 ro2 wf2 rw2 first later a b = record { ro_is = λ h. search rules; is_ro = λ h. search rules; wf_is = λ h. search rules; is_wf = λ h. search rules; rw_is = λ h. search rules; is_rw = λ h. search rules }

pub tells_gate : GateTells
tells_gate condition ro wf rw use_ a = record {
  0 = λ c. record { ro_is = λ h. a.ro_is h.1; is_ro = λ h. (c, a.is_ro h); wf_is = λ h. a.wf_is h.1; is_wf = λ h. (c, a.is_wf h); rw_is = λ h. a.rw_is h.1; is_rw = λ h. (c, a.is_rw h) };
  1 = λ n. record { ro_is = λ h. absurd (n h.0); is_ro = λ h. search rules; wf_is = λ h. absurd (n h.0); is_wf = λ h. search rules; rw_is = λ h. absurd (n h.0); is_rw = λ h. search rules };
}
