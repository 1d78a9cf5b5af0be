-- What both calls promise, kept; that its premises can be met (PremiseMet, OrbitFound); what computed calls share; and what each public function leaves open.
pub mod CallPromise
pub mod NamedFigures
pub mod PremiseMet
pub mod OrbitFound
pub mod Computed
pub mod OneAnswers
