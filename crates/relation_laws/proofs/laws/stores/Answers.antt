use Rattle.relation_semantics.proofs.StoreCalls.{bindings_are_met, equating_is_exact, equating_stays_sound, binding_is_exact, binding_stays_sound, numbers_are_exact, numbers_stay_sound, made_is_unconstrained, making_stays_sound, making_one_makes, constraining_is_exact, nothing_is_seen, resolved_resolves}
use Rattle.relation_semantics.proofs.Instantiating.{binding_instantiates, cycles_refuse}
use Rattle.relation_semantics.proofs.GeneralisingOnce.{generalising_is_one}
use Rattle.relation_semantics.proofs.BindingGeneralised.{generalising_instantiates}
use Rattle.relation_combining.proofs.BindingRefused.{generalising_refuses}
use Rattle.relation_laws.proofs.FreeValues.{free_values, made_is_unconstrained_erased}
use Rattle.relation_laws.proofs.laws.stores.Goals as goal

pub returns : goal.returns
returns c = record { met = bindings_are_met; free = free_values; equating = equating_is_exact; equated = equating_stays_sound; binding = binding_is_exact; bound = binding_stays_sound; instantiating = binding_instantiates; refusing = cycles_refuse; generalised = generalising_is_one; generalising = generalising_instantiates; stopping = generalising_refuses; numbers = numbers_are_exact; numbered = numbers_stay_sound; making = made_is_unconstrained; making_erased = made_is_unconstrained_erased; made = making_stays_sound; makes = making_one_makes; constraining = constraining_is_exact; nothing = nothing_is_seen; resolving = resolved_resolves }
