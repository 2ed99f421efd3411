mod TokenPlaces
