mod TokenSteps
